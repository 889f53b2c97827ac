-- Two lists are compared item by item: those passed are alike, so the rests decide.
use Prim.Native.Nat.{ℕ, ◌+◌}
use mathlib.Core.Path.{◌≡◌, refl, sym, ap, ap₂, ◌∙◌}
use mathlib.Core.Bool.{Bool, true, false}
use mathlib.Core.List.{List, [], ◌∷◌}
use mathlib.Core.Logic.{◌⊎◌, inl, inr}
use native.Mathlib.Omega.{arith}
use lib.ListN.{length}
use Rattle.std.specs.Ordering.{nat_cmp, is_ne}
use Rattle.types.specs.Order.{order, lexicographic, ordering_then}
use Rattle.std.specs.declared.cmp.Ordering.{Ordering}
use Rattle.types.proofs.Orders.{cmp_order, compared, order_less, order_equal, order_greater}
use Rattle.node_order.proofs.Answers.{told, passed}

-- numbers that are further on by the same
order_even : (m n k l : ℕ) → m + l ≡ n + k → order m n ≡ order k l
order_even m n k l e =
    compared k l
    (λ h. order_less m n (omega arith) ∙ sym (order_less k l h))
    (λ h. order_equal m n (omega arith) ∙ sym (order_equal k l h))
    (λ h. order_greater m n (omega arith) ∙ sym (order_greater k l h))

-- where one list has ended, the longer comes last
ended : (f : ℕ → ℕ → Ordering) (x y : List ℕ) → (length x ≡ 0) ⊎ (length y ≡ 0) → lexicographic f x y ≡ order (length x) (length y)
unfolding lexicographic
ended f [] [] h = sym (order_equal 0 0 refl)
ended f [] (w ∷ t) h = sym (order_less 0 (length (w ∷ t)) (omega arith))
ended f (v ∷ s) [] h = sym (order_greater (length (v ∷ s)) 0 (omega arith))
ended f (v ∷ s) (w ∷ t) (inl h) = absurd (omega arith)
ended f (v ∷ s) (w ∷ t) (inr h) = absurd (omega arith)

-- x and y are what is left of a and b
pub record Level (f : ℕ → ℕ → Ordering) (a b x y : List ℕ) : Type 0 where
  pub even : length a + length y ≡ length b + length x
  pub rest : lexicographic f a b ≡ lexicographic f x y

module _ {f : ℕ → ℕ → Ordering} {a b : List ℕ} where
  pub level_start : {x y : List ℕ} → x ≡ a → y ≡ b → Level f a b x y
  level_start p q = record { even = omega (arith, ap length p, ap length q); rest = sym (ap₂ (lexicographic f) p q) }

  module _ {x y : List ℕ} (L : Level f a b x y) where
    -- the items at the front, then what follows
    next : {v w : ℕ} {s t : List ℕ} {o : Ordering} → x ≡ v ∷ s → y ≡ w ∷ t → o ≡ f v w → lexicographic f a b ≡ ordering_then o (lexicographic f s t)
    unfolding lexicographic
    next {s = s} {t = t} h k e = L.rest ∙ ap₂ (lexicographic f) h k ∙ ap (λ (u : Ordering). ordering_then u (lexicographic f s t)) (sym e)

    pub level_told : {v w : ℕ} {s t : List ℕ} {o : Ordering} → x ≡ v ∷ s → y ≡ w ∷ t → o ≡ f v w → {q : Bool} → q ≡ is_ne o → q ≡ true → o ≡ lexicographic f a b
    level_told h k e n = told _ _ (next h k e) n

    pub level_more : {v w : ℕ} {s t : List ℕ} {o : Ordering} → x ≡ v ∷ s → y ≡ w ∷ t → o ≡ f v w → {q : Bool} → q ≡ is_ne o → q ≡ false → Level f a b s t
    level_more h k e n u = record { even = omega (arith, L.even, ap length h, ap length k); rest = passed _ _ (next h k e) n u }

    pub level_done : {o : Ordering} → (length x ≡ 0) ⊎ (length y ≡ 0) → o ≡ nat_cmp (length a) (length b) → o ≡ lexicographic f a b
    level_done h e = e ∙ cmp_order (length a) (length b) ∙ order_even (length a) (length b) (length x) (length y) L.even ∙ sym (L.rest ∙ ended f x y h)
