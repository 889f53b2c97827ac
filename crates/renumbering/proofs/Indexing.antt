-- The place of a variable in a list.
use Prim.Native.Nat.{ℕ, suc, ◌+◌, ◌≤◌}
use mathlib.Core.Path.{◌≡◌, sym}
use mathlib.Core.Bool.{Bool, true, false}
use mathlib.Core.List.{List, [], ◌∷◌}
use native.Mathlib.Omega.{arith}
use native.Mathlib.Numerals.{add-one}
use lib.ListN.{length}
use lib.Dec.{eqb}
use borrow.Author.Tests.{eq-eqb, ne_eqb}
use Rattle.renumbering.specs.Renumbered.{index}

pub index_here : (x v : ℕ) (l : List ℕ) → x ≡ v → index (x ∷ l) v ≡ 0
unfolding index
index_here x v l e = rw (eq-eqb x v e, index)

pub index_on : (x v : ℕ) (l : List ℕ) → (x ≡ v → ⊥) → index (x ∷ l) v ≡ index l v + 1
unfolding index
index_on x v l f = rw (ne_eqb x v f, index) (sym (add-one (index l v)))

pub index_few : (l : List ℕ) (v : ℕ) → index l v ≤ length l
unfolding index
index_few [] v = omega arith
index_few (x ∷ l) v = go (eqb x v) (index_few l v)
  where
    go : (b : Bool) → index l v ≤ length l → elim b as (λ _. ℕ) [ true ↦ 0 | false ↦ suc (index l v) ] ≤ length (x ∷ l)
    go true h = omega arith
    go false h = omega arith
