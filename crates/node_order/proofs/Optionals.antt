-- Two lists of fields are compared by the names of their optional fields, from one optional field to the next.
use Prim.Native.Nat.{ℕ, suc, ◌+◌, ◌<◌, ◌≤◌, max}
use mathlib.Core.Path.{◌≡◌, refl, sym, ap, ap₂, ◌∙◌}
use mathlib.Core.Bool.{Bool, true, false}
use mathlib.Core.List.{List, [], ◌∷◌, map}
use native.Mathlib.Omega.{arith}
use native.Mathlib.Numerals.{add-one}
use lib.ListN.{length, get_or, drop, drop_of_length-le}
use lib.Seq.{drop-cons}
use Rattle.std.specs.Ordering.{nat_cmp, is_ne}
use Rattle.words.specs.Words.{field_optional, field_name}
use Rattle.types.specs.Node.{field, field_of}
use Rattle.types.specs.Order.{order, lexicographic, ordering_then}
use Rattle.std.specs.declared.cmp.Ordering.{Ordering}
use Rattle.std.specs.declared.cmp.Ordering.TheVariants.{Less, Equal, Greater}
use Rattle.node_order.specs.NodeOrder.{optional_names}
use Rattle.node_order.specs.WordsOrder.{optional_in}
use Rattle.node_order.specs.Inner.{optional_order, NextOptional}
use Rattle.types.proofs.Orders.{cmp_order}
use Rattle.node_order.proofs.Answers.{told, passed}

module _ (fs : List ℕ) (i : ℕ) (h : i < length fs) where
  front : {o : Bool} → field_optional (get_or fs i 0) ≡ o → optional_in (drop i fs) ≡ optional_names (field o (field_name (get_or fs i 0)) ∷ map field_of (drop (suc i) fs))
  unfolding optional_in
  front e = ap optional_in (drop-cons fs i 0 h) ∙ ap (λ (b : Bool). optional_names (field b (field_name (get_or fs i 0)) ∷ map field_of (drop (suc i) fs))) e

  optional_here : field_optional (get_or fs i 0) ≡ true → optional_in (drop i fs) ≡ field_name (get_or fs i 0) ∷ optional_in (drop (suc i) fs)
  unfolding optional_in
  optional_here e = front e

  optional_skip : field_optional (get_or fs i 0) ≡ false → optional_in (drop i fs) ≡ optional_in (drop (suc i) fs)
  unfolding optional_in
  optional_skip e = front e

optional_none : (fs : List ℕ) (i : ℕ) → length fs ≤ i → optional_in (drop i fs) ≡ []
unfolding optional_in
optional_none fs i h = ap optional_in (drop_of_length-le fs h)

-- ---- from a place to the next optional field: none lies between
pub record Skipped (fs : List ℕ) (from i : ℕ) : Type 0 where
  pub low : from ≤ i
  pub none : optional_in (drop from fs) ≡ optional_in (drop i fs)

module _ {fs : List ℕ} {from : ℕ} where
  pub skipped_start : Skipped fs from from
  skipped_start = record { low = omega arith; none = refl }

  module _ {i : ℕ} (P : Skipped fs from i) where
    pub skipped_more : {q : Bool} → i < length fs → q ≡ field_optional (get_or fs i 0) → q ≡ false → Skipped fs from (i + 1)
    skipped_more h e f = record { low = omega arith; none = P.none ∙ optional_skip fs i h (sym e ∙ f) ∙ rw add-one }

    pub skipped_found : {q : Bool} → i < length fs → q ≡ field_optional (get_or fs i 0) → q ≡ true → NextOptional fs from i
    skipped_found h e f = record { low = P.low; passed = P.none; there = λ k. sym e ∙ f }

    pub skipped_all : {r : ℕ} → length fs ≤ i → r ≡ max (length fs) from → NextOptional fs from r
    skipped_all {r} h e =
        let d : optional_in (drop r fs) ≡ optional_in (drop i fs) = optional_none fs r (omega arith) ∙ sym (optional_none fs i h) in
        record { low = omega arith; passed = P.none ∙ sym d; there = λ k. absurd (omega arith) }

-- ---- the optional names before i and j are the same
pub record Facing (a b : List ℕ) (i j : ℕ) : Type 0 where
  pub rest : optional_order a b ≡ lexicographic order (optional_in (drop i a)) (optional_in (drop j b))
  pub left : i < length a → field_optional (get_or a i 0) ≡ true
  pub right : j < length b → field_optional (get_or b j 0) ≡ true

module _ {a b : List ℕ} where
  pub facing_start : {i j : ℕ} → NextOptional a 0 i → NextOptional b 0 j → Facing a b i j
  unfolding optional_order
  facing_start A B = record { rest = ap₂ (lexicographic order) A.passed B.passed; left = A.there; right = B.there }

  module _ {i j : ℕ} (F : Facing a b i j) where
    module _ {m n : ℕ} {o : Ordering} (h : i < length a) (k : j < length b) (p : m ≡ field_name (get_or a i 0)) (q : n ≡ field_name (get_or b j 0)) (e : o ≡ nat_cmp m n) where
      next : optional_order a b ≡ ordering_then o (lexicographic order (optional_in (drop (suc i) a)) (optional_in (drop (suc j) b)))
      unfolding lexicographic
      next =
          F.rest
          ∙ ap₂ (lexicographic order) (optional_here a i h (F.left h)) (optional_here b j k (F.right k))
          ∙ ap (λ (w : Ordering). ordering_then w (lexicographic order (optional_in (drop (suc i) a)) (optional_in (drop (suc j) b)))) (sym (e ∙ cmp_order m n ∙ ap₂ order p q))

      pub facing_told : {u : Bool} → u ≡ is_ne o → u ≡ true → o ≡ optional_order a b
      facing_told = told _ _ next

      pub facing_more : {u : Bool} {s t : ℕ} → u ≡ is_ne o → u ≡ false → NextOptional a (i + 1) s → NextOptional b (j + 1) t → Facing a b s t
      facing_more u w A B = record {
        rest = passed _ _ next u w ∙ ap₂ (lexicographic order) (rw (← add-one) A.passed) (rw (← add-one) B.passed);
        left = A.there;
        right = B.there;
      }

    pub facing_longer : i < length a → length b ≤ j → Greater ≡ optional_order a b
    unfolding lexicographic
    facing_longer h k = sym (F.rest ∙ ap₂ (lexicographic order) (optional_here a i h (F.left h)) (optional_none b j k))

    pub facing_shorter : length a ≤ i → j < length b → Less ≡ optional_order a b
    unfolding lexicographic
    facing_shorter h k = sym (F.rest ∙ ap₂ (lexicographic order) (optional_none a i h) (optional_here b j k (F.right k)))

    pub facing_done : length a ≤ i → length b ≤ j → Equal ≡ optional_order a b
    unfolding lexicographic
    facing_done h k = sym (F.rest ∙ ap₂ (lexicographic order) (optional_none a i h) (optional_none b j k))
