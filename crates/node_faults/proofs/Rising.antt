-- A loop over neighbours: those passed rise, so the rest from the last one on decides.
use Prim.Native.Nat.{ℕ, zero, suc, ◌+◌, ◌-◌, ◌<◌, ◌≤◌}
use mathlib.Core.Path.{◌≡◌, refl, sym, ap, ◌∙◌}
use mathlib.Core.Bool.{Bool, true, false, ◌&&◌}
use mathlib.Core.List.{List, [], ◌∷◌, map}
use native.Mathlib.Omega.{arith}
use lib.ListN.{length, get_or, drop, length-drop}
use lib.Seq.{drop-cons}
use lib.Dec.{ltb}
use borrow.Author.Tests.{lt-ltb}
use Rattle.std.specs.List.{IsAllAdjacentAnswer}
use Rattle.types.specs.Node.{rising}
use Rattle.types.proofs.Tests.{both}

-- word i - 1 is the last one passed
pub record Risen (f : ℕ → ℕ) (ws : List ℕ) (i : ℕ) : Type 0 where
  pub low : 1 ≤ i
  pub rest : rising (map f ws) ≡ rising (map f (drop (i - 1) ws))

short : (f : ℕ → ℕ) (ws : List ℕ) → length ws ≤ 1 → rising (map f ws) ≡ true
unfolding rising
short f [] h = refl
short f (w ∷ []) h = refl
short f (w ∷ v ∷ ws) h = absurd (omega arith)

module _ {f : ℕ → ℕ} {ws : List ℕ} where
  pub risen_start : Risen f ws 1
  risen_start = record { low = omega arith; rest = refl }

  module _ {i : ℕ} (R : Risen f ws i) where
    pub risen_done : length ws ≤ i → true ≡ rising (map f ws)
    risen_done h = sym (R.rest ∙ short f (drop (i - 1) ws) (omega (arith, R.low, length-drop (i - 1) ws)))

    next : {x y : ℕ} → i < length ws → x ≡ f (get_or ws (i - 1) 0) → y ≡ f (get_or ws i 0) → rising (map f ws) ≡ (ltb x y && rising (map f (drop i ws)))
    unfolding rising
    next h p q =
        let e : suc (i - 1) ≡ i = omega (arith, R.low) in
        let d : drop (i - 1) ws ≡ get_or ws (i - 1) 0 ∷ drop i ws = drop-cons ws (i - 1) 0 (omega arith) ∙ rw e in
        R.rest ∙ ap (λ (l : List ℕ). rising (map f l)) d ∙ rw (p, q, drop-cons ws i 0 h)

    pub risen_more : {x y : ℕ} → x < y → x ≡ f (get_or ws (i - 1) 0) → y ≡ f (get_or ws i 0) → i < length ws → Risen f ws (i + 1)
    risen_more {x} {y} l p q h =
        let e : i + 1 - 1 ≡ i = omega arith in
        record { low = omega arith; rest = next h p q ∙ rw (e, lt-ltb x y l) }

-- ---- the same as std tells it
and_false : (x : Bool) → (x && false) ≡ false
and_false true = refl
and_false false = refl

all_rise : (f : ℕ → ℕ) (ws : List ℕ) → ((k j : ℕ) → j ≡ suc k → j < length ws → ltb (f (get_or ws k 0)) (f (get_or ws j 0)) ≡ true) → rising (map f ws) ≡ true
unfolding rising
all_rise f [] h = refl
all_rise f (w ∷ []) h = refl
all_rise f (w ∷ v ∷ ws) h = both (h 0 1 refl (omega arith)) (all_rise f (v ∷ ws) (λ k j e l. h (suc k) (suc j) (ap suc e) (omega arith)))

some_fall : (f : ℕ → ℕ) (ws : List ℕ) (k j : ℕ) → j ≡ suc k → j < length ws → ltb (f (get_or ws k 0)) (f (get_or ws j 0)) ≡ false → rising (map f ws) ≡ false
unfolding rising
some_fall f [] k j e h n = absurd (omega arith)
some_fall f (w ∷ []) k j e h n = absurd (omega arith)
some_fall f (w ∷ v ∷ ws) k zero e h n = absurd (omega arith)
some_fall f (w ∷ v ∷ ws) zero (suc j) e h n =
    let z : j ≡ 0 = omega arith in
    let y : ltb (f w) (f v) ≡ false = ap (λ (i : ℕ). ltb (f w) (f (get_or (v ∷ ws) i 0))) (sym z) ∙ n in
    rw y
some_fall f (w ∷ v ∷ ws) (suc k) (suc j) e h n = rw (some_fall f (v ∷ ws) k j (omega arith) (omega arith) n) (and_false (ltb (f w) (f v)))

pub rising_sorted : (f : ℕ → ℕ) (ws : List ℕ) (r : Bool) → IsAllAdjacentAnswer (λ x y b. b ≡ ltb (f x) (f y)) ws r → r ≡ rising (map f ws)
rising_sorted f ws true h = sym (all_rise f ws (λ k j e l. let p : j ≡ k + 1 = omega arith in ap (λ (i : ℕ). ltb (f (get_or ws k 0)) (f (get_or ws i 0))) p ∙ sym (h k 0 (omega arith))))
rising_sorted f ws false h = sym (some_fall f ws h.0 (h.0 + 1) (omega arith) h.1 (sym (h.2 0)))
