-- A grown arena keeps its old nodes: what is said of an old number stays.
use Prim.Native.Nat.{ℕ, ◌<◌, ◌≤◌}
use mathlib.Core.Path.{◌≡◌, refl, sym, ap, ◌∙◌}
use mathlib.Core.Bool.{Bool, true, false}
use mathlib.Core.List.{[], ◌∷◌}
use native.Mathlib.Omega.{arith}
use lib.ListN.{length}
use lib.Dec.{eqb}
use borrow.Author.Tests.{eq-eqb, ne_eqb, eqb-true, eqb-false}
use Rattle.types.specs.Node.{Node}
use Rattle.types.specs.Arena.{Arena, at, rec, Ext, here, more}
use Rattle.types.specs.Theorems.{ExtAt, ExtRec}

pub ext_tail : {x : Node} {b a : Arena} → Ext (x ∷ b) a → Ext b a
ext_tail {x} here = more x here
ext_tail (more y e) = more y (ext_tail e)

pub ext_trans : {c b a : Arena} → Ext c b → Ext b a → Ext c a
ext_trans e here = e
ext_trans e (more x f) = more x (ext_trans e f)

pub ext_length : (b a : Arena) → Ext b a → length b ≤ length a
ext_length b a here = omega arith
ext_length b a (more {a = d} x e) = let h = ext_length b d e in omega arith

-- ---- one node more
pub at_grow : (x : Node) (s : Arena) (n : ℕ) → n < length s → at (x ∷ s) n ≡ at s n
unfolding at
at_grow x s n h = rw (ne_eqb n (length s) (λ e. omega arith), at)

pub at_new : (x : Node) (s : Arena) → at (x ∷ s) (length s) ≡ x
unfolding at
at_new x s = rw (eq-eqb (length s) (length s) refl, at)

module _ {ℓ} {Y : Type ℓ} (step : Arena → Node → (ℕ → Y) → Y) (y : Y) where
  pub rec_grow : (x : Node) (s : Arena) (n : ℕ) → n < length s → rec step y (x ∷ s) n ≡ rec step y s n
  unfolding rec
  rec_grow x s n h = rw (rec, ne_eqb n (length s) (λ e. omega arith))

  pub rec_new : (x : Node) (s : Arena) → rec step y (x ∷ s) (length s) ≡ step s x (rec step y s)
  unfolding rec
  rec_new x s = rw (rec, eq-eqb (length s) (length s) refl)

-- ---- any number of nodes more
pub ext_at : ExtAt
ext_at b a here n l = refl
ext_at b a (more {a = d} x e) n l = let h = ext_length b d e in at_grow x d n (omega arith) ∙ ext_at b d e n l

pub ext_rec {ℓ} : {Y : Type ℓ} (step : Arena → Node → (ℕ → Y) → Y) (y : Y) → ExtRec step y
ext_rec step y b a here n l = refl
ext_rec step y b a (more {a = d} x e) n l = let h = ext_length b d e in rec_grow step y x d n (omega arith) ∙ ext_rec step y b d e n l

-- ---- the arena as it was before node n
pub record Before (a : Arena) (n : ℕ) : Type 0 where
  pub older : Arena
  pub count : length older ≡ n
  pub ext : Ext (at a n ∷ older) a

pub before : (a : Arena) (n : ℕ) → n < length a → Before a n
before [] n h = absurd (omega arith)
before (x ∷ s) n h = go (eqb n (length s)) refl (before s n)
  where
    go : (b : Bool) → eqb n (length s) ≡ b → (n < length s → Before s n) → Before (x ∷ s) n
    go true e f =
        let q : n ≡ length s = eqb-true n (length s) e in
        record { older = s; count = sym q; ext = rw (q, at_new x s) here }
    go false e f =
        let l : n < length s = let z : n ≡ length s → ⊥ = eqb-false n (length s) e in omega arith in
        let B = f l in
        record { older = B.older; count = B.count; ext = rw (at_grow x s n l) (more x B.ext) }

-- a node's value, from those of the nodes before it
pub rec_at {ℓ} : {Y : Type ℓ} (step : Arena → Node → (ℕ → Y) → Y) (y : Y) (a : Arena) (n : ℕ) (h : n < length a) → rec step y a n ≡ step (before a n h).older (at a n) (rec step y (before a n h).older)
rec_at step y a n h =
    let B = before a n h in
    ext_rec step y (at a n ∷ B.older) a B.ext n (omega (arith, B.count))
    ∙ ap (rec step y (at a n ∷ B.older)) (sym B.count) ∙ rec_new step y (at a n) B.older
