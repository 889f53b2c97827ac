-- Orders, told three ways.
use Rattle.std.specs.Prelude.{ℕ, ◌≡◌, Bool, true, false, List, [], ◌∷◌, ltb}
use Rattle.std.specs.declared.cmp.Ordering.{Ordering}
use Rattle.std.specs.declared.cmp.Ordering.TheVariants.{Less, Equal, Greater}

-- numbers by size
unfoldable pub order : ℕ → ℕ → Ordering
order m n = elim (ltb m n) [ true ↦ Less | false ↦ elim (ltb n m) [ true ↦ Greater | false ↦ Equal ] ]

-- the first answer, or the second where the first leaves it open
unfoldable pub ordering_then : Ordering → Ordering → Ordering
ordering_then Less o = Less
ordering_then Equal o = o
ordering_then Greater o = Greater

-- lists by their first difference; a list comes before any longer one that begins with it
unfoldable pub lexicographic {ℓ} : {A : Type ℓ} → (A → A → Ordering) → List A → List A → Ordering
unfolding ordering_then
lexicographic f [] [] = Equal
lexicographic f [] (y ∷ ys) = Less
lexicographic f (x ∷ xs) [] = Greater
lexicographic f (x ∷ xs) (y ∷ ys) = ordering_then (f x y) (lexicographic f xs ys)

-- things by what a key reads off them
unfoldable pub by {ℓ κ} : {A : Type ℓ} {B : Type κ} → (A → B) → (B → B → Ordering) → A → A → Ordering
by key f x y = f (key x) (key y)

-- by one order, and where it leaves two things open by another
unfoldable pub then_by {ℓ} : {A : Type ℓ} → (A → A → Ordering) → (A → A → Ordering) → A → A → Ordering
unfolding ordering_then
then_by f g x y = ordering_then (f x y) (g x y)

-- does the answer say that the first comes before the second?
abbrev pub is_less : Ordering → Bool
is_less Less = true
is_less Equal = false
is_less Greater = false

-- what is told of two things in the other order
unfoldable pub reversed : Ordering → Ordering
reversed Less = Greater
reversed Equal = Equal
reversed Greater = Less

-- of two things that differ, one comes before the other
pub record TotalOrder {ℓ} {A : Type ℓ} (f : A → A → Ordering) : Type ℓ where
  pub refl_equal : (x : A) → f x x ≡ Equal
  pub equal : (x y : A) → f x y ≡ Equal → x ≡ y
  pub turned : (x y : A) → f y x ≡ reversed (f x y)
  pub trans : (x y z : A) → f x y ≡ Less → f y z ≡ Less → f x z ≡ Less
