-- The place of a member: the members passed stay in front of it, and it is inserted among the rest.
use Prim.Native.Nat.{ℕ, suc, ◌+◌, ◌<◌, ◌≤◌}
use mathlib.Core.Path.{◌≡◌, sym, ap, ◌∙◌}
use mathlib.Core.Bool.{Bool, true, false}
use mathlib.Core.List.{List, [], ◌∷◌, ◌++◌, append_assoc}
use native.Mathlib.Omega.{arith}
use native.Mathlib.Numerals.{add-one}
use lib.ListN.{length, get_or, take, drop, drop_of_length-le}
use lib.Seq.{take-suc, drop-cons}
use Rattle.types.specs.Arena.{Arena}
use Rattle.types.specs.Memory.{Holds}
use Rattle.types.specs.declared.Counters.{Counters}
use Rattle.types.specs.Order.{is_less}
use Rattle.std.specs.declared.cmp.Ordering.{Ordering}
use Rattle.std.specs.Ordering.{is_lt}
use Rattle.types.proofs.Orders.{less_is}
use Rattle.types.proofs.Lists.{below_at}
use Rattle.node_store.specs.Inner.Stored.{InRange, Ordered}
use Rattle.member_sorting.specs.Sort.{before, insert_member}
use Rattle.member_sorting.specs.Inner.{ComesBefore, Placing, PlaceOf}

-- ---- which of two comes first

module _ {w s : List ℕ} {c : Counters} {m n x y : ℕ} (p : x ≡ m) (q : y ≡ n) {o : Ordering} (O : Ordered w s c x y o) where
  pub told : {b : Bool} → b ≡ is_lt o → ComesBefore w s c m n b
  unfolding before
  told e = record { is = λ table a H. e ∙ less_is o ∙ ap is_less (O.is table a H) ∙ (λ i. before a (p i) (q i)) }

-- ---- one member
insert_here : (a : Arena) (m x : ℕ) (xs : List ℕ) → before a m x ≡ true → insert_member a m (x ∷ xs) ≡ m ∷ x ∷ xs
unfolding insert_member
insert_here a m x xs e = rw (insert_member, e)

insert_later : (a : Arena) (m x : ℕ) (xs : List ℕ) → before a m x ≡ false → insert_member a m (x ∷ xs) ≡ x ∷ insert_member a m xs
unfolding insert_member
insert_later a m x xs e = rw (insert_member, e)

-- m comes before none of the first i members
pub record Passed (w s : List ℕ) (c : Counters) (m : ℕ) (ms : List ℕ) (i : ℕ) : Type 0 where
  pub placing : Placing w s c m ms
  pub high : i ≤ length ms
  pub is : (table : ℕ) (a : Arena) → Holds table w s c a → insert_member a m ms ≡ take i ms ++ insert_member a m (drop i ms)

module _ {w s : List ℕ} {c : Counters} {m : ℕ} {ms : List ℕ} where
  module _ {i : ℕ} (P : Passed w s c m ms i) where
    pub passed_next : i < length ms → InRange w s c (get_or ms i 0)
    passed_next l = record { lent = P.placing.range.lent; inside = below_at c.nodes ms P.placing.low i l }

    pub passed_done : length ms ≤ i → PlaceOf w s c m ms (length ms)
    unfolding insert_member
    passed_done h = let e : i ≡ length ms = omega (arith, h, P.high) in record {
      few = omega arith;
      is = λ table a H.
          let none = drop_of_length-le ms {i = i} h in
          P.is table a H ∙ ap (λ (l : List ℕ). take i ms ++ insert_member a m l) none ∙ ap (λ (l : List ℕ). take i ms ++ m ∷ l) (sym none)
          ∙ ap (λ (k : ℕ). take k ms ++ m ∷ drop k ms) e;
    }

    module _ (l : i < length ms) {b : Bool} (B : ComesBefore w s c m (get_or ms i 0) b) where
      pub passed_found : b ≡ true → PlaceOf w s c m ms i
      passed_found e = record {
        few = P.high;
        is = λ table a H.
            let d = drop-cons ms i 0 l in
            P.is table a H ∙ ap (λ (l : List ℕ). take i ms ++ insert_member a m l) d ∙ ap (λ (l : List ℕ). take i ms ++ l) (insert_here a m (get_or ms i 0) (drop (suc i) ms) (sym (B.is table a H) ∙ e))
            ∙ ap (λ (l : List ℕ). take i ms ++ m ∷ l) (sym d);
      }

      pub passed_more : b ≡ false → Passed w s c m ms (i + 1)
      passed_more e = record {
        placing = P.placing;
        high = omega arith;
        is = λ table a H.
            P.is table a H ∙ ap (λ (l : List ℕ). take i ms ++ insert_member a m l) (drop-cons ms i 0 l)
            ∙ ap (λ (l : List ℕ). take i ms ++ l) (insert_later a m (get_or ms i 0) (drop (suc i) ms) (sym (B.is table a H) ∙ e))
            ∙ sym (append_assoc (take i ms) (get_or ms i 0 ∷ []) (insert_member a m (drop (suc i) ms))) ∙ ap (λ (l : List ℕ). l ++ insert_member a m (drop (suc i) ms)) (sym (take-suc ms i 0 l))
            ∙ ap (λ (j : ℕ). take j ms ++ insert_member a m (drop j ms)) (sym (add-one i));
      }
