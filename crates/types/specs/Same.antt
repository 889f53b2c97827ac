-- Equality as a computed test.
use Rattle.std.specs.Prelude.{ℕ, Bool}
use Rattle.std.proofs.Math.Path.{◌≡◌, refl}
use Rattle.std.proofs.Math.Bool.{decide}
use mathlib.Core.List.{List, [], ◌∷◌}
use Rattle.std.proofs.Math.Decide.{ℕ_discrete}
use Rattle.std.proofs.Common.{arith}

module _ {A : Type 0} (d : Discrete A) where
  unfoldable pub list_dec_cons : {a b : A} {s t : List A} → Dec (a ≡ b) → Dec (s ≡ t) → Dec (Path (List A) (a ∷ s) (b ∷ t))
  list_dec_cons (yes p) (yes q) = yes (λ i. p i ∷ q i)
  list_dec_cons (yes p) (no h) = no (λ e. h (cc))
  list_dec_cons (no h) q = no (λ e. h (cc))

  -- two lists are equal, or they are not
  unfoldable pub list_dec : Discrete (List A)
  unfolding list_dec_cons
  list_dec [] [] = yes refl
  list_dec [] (b ∷ t) = no (λ e. let z : ◌≡◌ {A = ℕ} 0 1 = cc in omega arith)
  list_dec (a ∷ s) [] = no (λ e. let z : ◌≡◌ {A = ℕ} 0 1 = cc in omega arith)
  list_dec (a ∷ s) (b ∷ t) = list_dec_cons (d a b) (list_dec s t)

-- words and bytes
unfoldable pub numbers_dec : Discrete (List ℕ)
unfolding list_dec ℕ_discrete
numbers_dec = list_dec ℕ_discrete

-- are the two equal?
unfoldable pub same : {A : Type 0} → Discrete A → A → A → Bool
unfolding decide
same d x y = decide (d x y)

-- have the two the same numbers?
unfoldable pub same_numbers : List ℕ → List ℕ → Bool
unfolding same numbers_dec
same_numbers = same numbers_dec
