-- What computed tests say.
use Prim.Native.Nat.{ℕ}
use mathlib.Core.Path.{◌≡◌, refl, sym}
use mathlib.Core.Bool.{Bool, true, false, ◌&&◌, ◌||◌, decide}
use mathlib.Core.List.{List}
use native.Mathlib.Omega.{arith}
use lib.Dec.{eqb}
use Rattle.std.specs.Cmp.Lexicographic.{pointwise}
use Rattle.std.proofs.lemmas.Bool.Decides.{same_from_decides, Decides-eqb}
use Rattle.std.proofs.lemmas.Slice.Eq.{slice_eq-Decides}
use Rattle.types.specs.Same.{same, numbers_dec, same_numbers}

pub true_false : true ≡ false → ⊥
true_false e = let z : ◌≡◌ {A = ℕ} 0 1 = cc in omega arith

pub and_true : (x y : Bool) → (x && y) ≡ true → (x ≡ true) × (y ≡ true)
and_true true y e = (refl, e)
and_true false y e = absurd (true_false (sym e))

pub both : {x y : Bool} → x ≡ true → y ≡ true → (x && y) ≡ true
both p q = rw (p, q)

-- neither of two tests passes
pub neither : (x y : Bool) → (x || y) ≡ false → (x ≡ false) × (y ≡ false)
neither true y e = absurd (true_false e)
neither false y e = (refl, e)

pub not_true : (x : Bool) → (x ≡ true → ⊥) → x ≡ false
not_true true f = absurd (f refl)
not_true false f = refl

-- two tests that say the same are equal
pub same_truth : (x y : Bool) → (x ≡ true → y ≡ true) → (y ≡ true → x ≡ true) → x ≡ y
same_truth true y f g = sym (f refl)
same_truth false true f g = g refl
same_truth false false f g = refl

-- ---- the test for equality holds exactly for equal things
module _ {A : Type 0} (d : Discrete A) where
  pub same_true : (x y : A) → same d x y ≡ true → x ≡ y
  unfolding same
  same_true x y e = go (d x y) e
    where
      go : (t : Dec (x ≡ y)) → decide t ≡ true → x ≡ y
      go (yes p) q = p
      go (no h) q = absurd (true_false (sym q))

  pub same_if : (x y : A) → x ≡ y → same d x y ≡ true
  unfolding same
  same_if x y e = go (d x y)
    where
      go : (t : Dec (x ≡ y)) → decide t ≡ true
      go (yes p) = refl
      go (no h) = absurd (h e)

  pub same_not : (x y : A) → (x ≡ y → ⊥) → same d x y ≡ false
  same_not x y f = not_true (same d x y) (λ e. f (same_true x y e))

pub numbers_true : (x y : List ℕ) → same_numbers x y ≡ true → x ≡ y
unfolding same_numbers
numbers_true = same_true numbers_dec

pub numbers_if : (x y : List ℕ) → x ≡ y → same_numbers x y ≡ true
unfolding same_numbers
numbers_if = same_if numbers_dec

pub numbers_not : (x y : List ℕ) → (x ≡ y → ⊥) → same_numbers x y ≡ false
unfolding same_numbers
numbers_not = same_not numbers_dec

-- `==` on two slices of numbers
pub numbers_eq : (x y : List ℕ) {b : Bool} → b ≡ pointwise eqb x y → b ≡ same_numbers x y
numbers_eq x y {b} e = same_from_decides b (same_numbers x y) (slice_eq-Decides Decides-eqb x y b e) (numbers_true x y, numbers_if x y)
