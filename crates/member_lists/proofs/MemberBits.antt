-- The bits of a list's members: none where the list is empty, and one more for each member that is appended.
use Prim.Native.Nat.{ℕ, ◌<◌}
use mathlib.Core.Path.{◌≡◌, refl, sym, ap, ◌∙◌}
use mathlib.Core.Bool.{Bool, true, false, ◌||◌, or-false}
use mathlib.Core.List.{List, [], ◌∷◌, ◌++◌}
use native.Mathlib.Omega.{arith}
use native.Mathlib.Decide.{ℕ_discrete}
use lib.ListN.{replicate, length-append, length-replicate}
use lib.Dec.{eqb}
use borrow.Author.Tests.{eq-eqb, ne_eqb, lt-ltb}
use Rattle.types.specs.Node.{below}
use Rattle.types.proofs.Lists.{below_cons}
use Rattle.types.proofs.Tests.{both}
use Rattle.bits.specs.Bits.{has, Put}
use Rattle.bits.proofs.Sets.{has_none, count_same, count_none, count_more}
use Rattle.simplification.specs.Pass.{one_of}
use Rattle.simplification.proofs.Answers.{or_left, or_right, one_append}
use Rattle.member_lists.specs.Inner.Members.{BitsOf, Growing}

-- ---- an empty list
no_bits : BitsOf [] (replicate 64 0)
unfolding one_of
no_bits = record {
  long = length-replicate {A = ℕ} 64 0;
  exactly = λ m. has_none 64 m;
  many = λ nodes l. count_same (has (replicate 64 0)) (λ m. false) nodes (λ m k. has_none 64 m) ∙ count_none nodes;
}

pub growing_none : Growing (replicate 64 0) 0 (replicate 64 0)
growing_none = record { room = record { long = length-replicate {A = ℕ} 64 0; few = omega arith }; bits = no_bits }

-- ---- one member more
-- n is in the set, and all other numbers are as they were
pub one_met : (met met' : List ℕ) (n : ℕ) → has met' n ≡ true → ((m : ℕ) → (m ≡ n → ⊥) → has met' m ≡ has met m) → (m : ℕ) → has met' m ≡ (has met m || one_of (eqb m) (n ∷ []))
unfolding one_of
one_met met met' n t f m = go (ℕ_discrete m n)
  where
    go : Dec (m ≡ n) → has met' m ≡ (has met m || (eqb m n || false))
    go (yes e) = ap (has met') e ∙ t ∙ sym (or_right (has met m) (eqb m n || false) (or_left (eqb m n) false (eq-eqb m n e)))
    go (no d) = f m d ∙ sym (ap (λ (b : Bool). has met m || (b || false)) (ne_eqb m n d) ∙ or-false (has met m))

snoc_below : (nodes : ℕ) (xs : List ℕ) (n : ℕ) → below nodes (xs ++ (n ∷ [])) ≡ true → (below nodes xs ≡ true) × (n < nodes)
unfolding below
snoc_below nodes [] n e = (refl, (below_cons nodes n [] e).0)
snoc_below nodes (x ∷ xs) n e =
    let p = below_cons nodes x (xs ++ (n ∷ [])) e in
    let r = snoc_below nodes xs n p.1 in
    (both (lt-ltb x nodes p.0) r.0, r.1)

pub bits_more : {list met : List ℕ} {n : ℕ} {met' : List ℕ} → BitsOf list met → one_of (eqb n) list ≡ false → Put met n met' → BitsOf (list ++ (n ∷ [])) met'
bits_more {list} {met} {n} {met'} B f P = record {
  long = P.long ∙ B.long;
  exactly = λ m. one_met met met' n P.new P.old m ∙ ap (λ (b : Bool). b || one_of (eqb m) (n ∷ [])) (B.exactly m) ∙ sym (one_append (eqb m) list (n ∷ []));
  many = λ nodes l.
      let p = snoc_below nodes list n l in
      let more = count_more (has met) (has met') n nodes p.1 (B.exactly n ∙ f) P.new P.old in
      omega (arith, more, B.many nodes p.0, length-append list (n ∷ []));
}
