-- Places: they lead to lower numbers, they join, and a grown arena keeps them.
use Prim.Native.Nat.{ℕ, ◌<◌, ◌≤◌}
use mathlib.Core.Path.{◌≡◌, sym, subst}
use mathlib.Core.Bool.{true}
use native.Mathlib.Omega.{arith}
use lib.ListN.{length, get_or}
use Rattle.types.specs.Node.{Polarity, Node, tag, children}
use Rattle.types.specs.Arena.{Arena, at, sound}
use Rattle.types.specs.Places.{child_sign, Place, self, down}
use Rattle.types.specs.Theorems.{PlaceKept, PlaceOld}
use Rattle.types.proofs.Growth.{ext_at}
use Rattle.types.proofs.Sound.{child_lower}

-- a step down, where it is known which node stands there
pub step : (a : Arena) (n : ℕ) (x : Node) → at a n ≡ x → {u : ℕ} {s p : Polarity} (i : ℕ) → i < length (children x) → Place a (get_or (children x) i 0) (child_sign (tag x) i s) u p → Place a n s u p
step a n x e {u} {s} {p} i l q =
    down i (subst (λ (y : Node). i < length (children y)) (sym e) l)
    (subst (λ (y : Node). Place a (get_or (children y) i 0) (child_sign (tag y) i s) u p) (sym e) q)

pub place_join : {a : Arena} {n m u : ℕ} {s q p : Polarity} → Place a n s m q → Place a m q u p → Place a n s u p
place_join self k = k
place_join (down i l h) k = down i l (place_join h k)

-- no place of a type stands above its root
pub place_lower : (table : ℕ) (a : Arena) → sound table a ≡ true → {n u : ℕ} {s p : Polarity} → Place a n s u p → n < length a → u ≤ n
place_lower table a h self l = omega arith
place_lower table a h (down {n = n} i k q) l =
    let c = child_lower table a h n l i k in
    let r = place_lower table a h q (omega arith) in
    omega arith

-- ---- an old number has the same places in a grown arena
pub place_kept : (table : ℕ) (b a : Arena) {n u : ℕ} {s p : Polarity} → PlaceKept table b a n u s p
place_kept table b a h e self l = self
place_kept table b a h e (down {n = n} i k q) l =
    let c = child_lower table b h n l i k in
    step a n (at b n) (ext_at b a e n l) i k (place_kept table b a h e q (omega arith))

pub place_old : (table : ℕ) (b a : Arena) {n u : ℕ} {s p : Polarity} → PlaceOld table b a n u s p
place_old table b a h e self l = self
place_old table b a h e (down {n = n} i k q) l =
    let x = ext_at b a e n l in
    let c : get_or (children (at a n)) i 0 < n
    = subst (λ (y : Node). get_or (children y) i 0 < n) (sym x) (child_lower table b h n l i (subst (λ (y : Node). i < length (children y)) x k)) in
    step b n (at a n) (sym x) i k (place_old table b a h e q (omega arith))
