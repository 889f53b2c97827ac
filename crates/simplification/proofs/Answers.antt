-- What computed tests say.
use mathlib.Core.Path.{◌≡◌, refl, sym, ap, ap₂, ◌∙◌}
use mathlib.Core.Bool.{Bool, true, false, ◌||◌, or_assoc}
use mathlib.Core.List.Memᴰ.{head}
use mathlib.Core.List.Memᴰ.{tail}
use mathlib.Core.List.{List, [], ◌∷◌, ◌++◌, Memᴰ as Mem}
use mathlib.Core.Logic.{◌⊎◌, inl, inr}
use native.Mathlib.Decide.{ℕ_discrete}
use Rattle.types.specs.Node.{Polarity-dec, Tag, Tag-dec, form_dec}
use Rattle.types.proofs.Tests.{true_false, same_true, same_if, same_not}
use Rattle.simplification.specs.Seen.{same_tag}
use Rattle.simplification.specs.Pass.{one_of}

-- ---- tests
pub same_tag_true : (t u : Tag) → same_tag t u ≡ true → t ≡ u
unfolding same_tag
same_tag_true = same_true (Tag-dec Polarity-dec ℕ_discrete form_dec)

pub same_tag_if : (t u : Tag) → t ≡ u → same_tag t u ≡ true
unfolding same_tag
same_tag_if = same_if (Tag-dec Polarity-dec ℕ_discrete form_dec)

pub same_tag_not : (t u : Tag) → (t ≡ u → ⊥) → same_tag t u ≡ false
unfolding same_tag
same_tag_not = same_not (Tag-dec Polarity-dec ℕ_discrete form_dec)

pub same_tag_false : (t u : Tag) → same_tag t u ≡ false → t ≡ u → ⊥
same_tag_false t u e q = true_false (sym (same_tag_if t u q) ∙ e)

pub or_true : (x y : Bool) → (x || y) ≡ true → (x ≡ true) ⊎ (y ≡ true)
or_true true y e = inl refl
or_true false y e = inr e

pub or_left : (x y : Bool) → x ≡ true → (x || y) ≡ true
or_left x y e = rw e

pub or_right : (x y : Bool) → y ≡ true → (x || y) ≡ true
or_right true y e = refl
or_right false y e = e

-- ---- one of a list passes
module _ {A : Type 0} (p : A → Bool) where
  pub one_true : (xs : List A) → one_of p xs ≡ true → (x : A) × Mem x xs × (p x ≡ true)
  unfolding one_of
  one_true [] e = absurd (true_false (sym e))
  one_true (x ∷ xs) e = go (or_true (p x) (one_of p xs) e) (one_true xs)
    where
      go : (p x ≡ true) ⊎ (one_of p xs ≡ true) → (one_of p xs ≡ true → (y : A) × Mem y xs × (p y ≡ true)) → (y : A) × Mem y (x ∷ xs) × (p y ≡ true)
      go (inl q) f = (x, head refl, q)
      go (inr q) f = let r = f q in (r.0, tail r.1, r.2)

  pub one_if : (xs : List A) (x : A) → Mem x xs → p x ≡ true → one_of p xs ≡ true
  unfolding one_of
  one_if [] x x4 q = elim x4 [ ]
  one_if (y ∷ ys) x (head e) q = or_left (p y) (one_of p ys) (ap p (sym e) ∙ q)
  one_if (y ∷ ys) x (tail h) q = or_right (p y) (one_of p ys) (one_if ys x h q)

  pub one_append : (xs ys : List A) → one_of p (xs ++ ys) ≡ (one_of p xs || one_of p ys)
  unfolding one_of
  one_append [] ys = refl
  one_append (x ∷ xs) ys = ap (λ (b : Bool). p x || b) (one_append xs ys) ∙ sym (or_assoc (p x) (one_of p xs) (one_of p ys))

  pub one_same : (q : A → Bool) (xs : List A) → ((x : A) → Mem x xs → p x ≡ q x) → one_of p xs ≡ one_of q xs
  unfolding one_of
  one_same q [] f = refl
  one_same q (x ∷ xs) f = ap₂ ◌||◌ (f x (head refl)) (one_same q xs (λ y i. f y (tail i)))
