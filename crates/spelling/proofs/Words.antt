-- A name is held against the reserved words that are as long.
use Prim.Native.Nat.{ℕ}
use mathlib.Core.Path.{◌≡◌, refl, sym, ap, ◌∙◌}
use mathlib.Core.Bool.{Bool, true, false, ◌||◌, or-false, or_assoc}
use mathlib.Core.List.{List, [], ◌∷◌}
use lib.ListN.{length}
use lib.Dec.{eqb}
use borrow.Author.Tests.{ne_eqb, eqb-false}
use Rattle.std.specs.Ordering.{is_eq}
use Rattle.std.specs.declared.cmp.Ordering.{Ordering}
use Rattle.std.specs.declared.cmp.Ordering.TheVariants.{Less, Equal, Greater}
use Rattle.types.specs.Bytes.{bytes}
use Rattle.types.specs.Same.{same_numbers}
use Rattle.types.proofs.Orders.{less_equal, equal_greater}
use Rattle.types.proofs.Tests.{numbers_if, numbers_not}
use Rattle.names.specs.Table.{Name, name_order}
use Rattle.names.proofs.Numbers.{name_order_total, told_differs}
use Rattle.spelling.specs.Spelling.{one_of, reserved_words, reserved}

-- ---- two names are the same exactly where they are told so
pub told_same : (m n : Name) {o : Ordering} {r : Bool} → o ≡ name_order m n → r ≡ is_eq o → r ≡ same_numbers m n
told_same m n {o} e q = q ∙ go o e
  where
    go : (p : Ordering) → p ≡ name_order m n → is_eq p ≡ same_numbers m n
    go Less f = sym (numbers_not m n (told_differs m n (λ p. less_equal (f ∙ p))))
    go Equal f = sym (numbers_if m n (name_order_total.equal m n (sym f)))
    go Greater f = sym (numbers_not m n (told_differs m n (λ p. equal_greater (sym p ∙ sym f))))

-- ---- only words as long as the name can be the same
-- those that have k bytes
of_length : ℕ → List Name → List Name
of_length k [] = []
of_length k (m ∷ ms) = elim (eqb (length m) k) [ true ↦ m ∷ of_length k ms | false ↦ of_length k ms ]

one_of_length : (n : Name) (ms : List Name) → one_of n ms ≡ one_of n (of_length (length n) ms)
unfolding one_of of_length
one_of_length n [] = refl
one_of_length n (m ∷ ms) = go (eqb (length m) (length n)) refl (one_of_length n ms)
  where
    go : (b : Bool) → eqb (length m) (length n) ≡ b → one_of n ms ≡ one_of n (of_length (length n) ms)
        → (same_numbers n m || one_of n ms) ≡ one_of n (elim b as (λ _. List Name) [ true ↦ m ∷ of_length (length n) ms | false ↦ of_length (length n) ms ])
    go true e h = ap (λ (x : Bool). same_numbers n m || x) h
    go false e h = ap (λ (x : Bool). x || one_of n ms) (numbers_not n m (λ p. eqb-false (length m) (length n) e (ap length (sym p)))) ∙ h

no_word : (k : ℕ) → of_length k [] ≡ []
unfolding of_length
no_word k = refl

-- a word of another length is left out
other_length : (k : ℕ) (m : Name) (ms : List Name) → eqb (length m) k ≡ false → of_length k (m ∷ ms) ≡ of_length k ms
unfolding of_length
other_length k m ms e = rw (e, of_length)

module _ (n : Name) where
  as_long : (k : ℕ) → length n ≡ k → one_of n (of_length k reserved_words) ≡ reserved n
  unfolding reserved
  as_long k e = ap (λ (j : ℕ). one_of n (of_length j reserved_words)) (sym e) ∙ sym (one_of_length n reserved_words)

  -- what is told of one, two or three words, one after another
  one_told : {x : Bool} (m : Name) → x ≡ same_numbers n m → x ≡ one_of n (m ∷ [])
  unfolding one_of
  one_told m p = p ∙ sym (or-false (same_numbers n m))

  two_told : {x y : Bool} (l m : Name) → x ≡ same_numbers n l → y ≡ same_numbers n m → (x || y) ≡ one_of n (l ∷ m ∷ [])
  unfolding one_of
  two_told l m p q = λ i. p i || one_told m q i

  three_told : {x y z : Bool} (k l m : Name) → x ≡ same_numbers n k → y ≡ same_numbers n l → z ≡ same_numbers n m → ((x || y) || z) ≡ one_of n (k ∷ l ∷ m ∷ [])
  unfolding one_of
  three_told {x} {y} {z} k l m p q r = or_assoc x y z ∙ (λ i. p i || two_told l m q r i)

  -- ---- the reserved words of each length
  pub two_bytes : length n ≡ 2 → {x y z : Bool} → x ≡ same_numbers n (bytes "if") → y ≡ same_numbers n (bytes "in") → z ≡ same_numbers n (bytes "or") → ((x || y) || z) ≡ reserved n
  unfolding of_length reserved_words
  two_bytes e p q r = three_told _ _ _ p q r ∙ as_long 2 e

  pub three_bytes : length n ≡ 3 → {x y : Bool} → x ≡ same_numbers n (bytes "let") → y ≡ same_numbers n (bytes "rec") → (x || y) ≡ reserved n
  unfolding of_length reserved_words
  three_bytes e p q = two_told _ _ p q ∙ as_long 3 e

  pub four_bytes : length n ≡ 4 → {x y z : Bool} → x ≡ same_numbers n (bytes "else") → y ≡ same_numbers n (bytes "then") → z ≡ same_numbers n (bytes "with") → ((x || y) || z) ≡ reserved n
  unfolding of_length reserved_words
  four_bytes e p q r = three_told _ _ _ p q r ∙ as_long 4 e

  pub six_bytes : length n ≡ 6 → {x : Bool} → x ≡ same_numbers n (bytes "assert") → x ≡ reserved n
  unfolding of_length reserved_words
  six_bytes e p = one_told _ p ∙ as_long 6 e

  pub seven_bytes : length n ≡ 7 → {x : Bool} → x ≡ same_numbers n (bytes "inherit") → x ≡ reserved n
  unfolding of_length reserved_words
  seven_bytes e p = one_told _ p ∙ as_long 7 e

  pub other_bytes : (length n ≡ 2 → ⊥) → (length n ≡ 3 → ⊥) → (length n ≡ 4 → ⊥) → (length n ≡ 6 → ⊥) → (length n ≡ 7 → ⊥) → false ≡ reserved n
  unfolding reserved_words one_of
  other_bytes f2 f3 f4 f6 f7 =
      let k = length n in
      let h2 : eqb 2 k ≡ false = ne_eqb 2 k (λ e. f2 (sym e)) in
      let h3 : eqb 3 k ≡ false = ne_eqb 3 k (λ e. f3 (sym e)) in
      let h4 : eqb 4 k ≡ false = ne_eqb 4 k (λ e. f4 (sym e)) in
      let h6 : eqb 6 k ≡ false = ne_eqb 6 k (λ e. f6 (sym e)) in
      let h7 : eqb 7 k ≡ false = ne_eqb 7 k (λ e. f7 (sym e)) in
      let none : of_length k reserved_words ≡ []
      = other_length k _ _ h6 ∙ other_length k _ _ h4 ∙ other_length k _ _ h2 ∙ other_length k _ _ h2 ∙ other_length k _ _ h7
      ∙ other_length k _ _ h3 ∙ other_length k _ _ h2 ∙ other_length k _ _ h3 ∙ other_length k _ _ h4 ∙ other_length k _ _ h4 ∙ no_word k in
      ap (one_of n) (sym none) ∙ as_long k refl
