-- The search for a member that decides the list: none so far.
use Prim.Native.Nat.{ℕ, ◌+◌, ◌<◌, ◌≤◌}
use mathlib.Core.Path.{◌≡◌, sym, ap, ◌∙◌, subst}
use mathlib.Core.List.{List, Memᴰ as Mem}
use native.Mathlib.Omega.{arith}
use lib.ListN.{length, get_or}
use borrow.Author.Count.{below_more}
use Rattle.std.specs.Prelude.{Some, None}
use Rattle.types.specs.Kind.{disc}
use Rattle.types.specs.Node.{Polarity, Tag, members, bound, tag, kind}
use Rattle.types.specs.Arena.{Arena, at}
use Rattle.types.specs.Places.{opposite}
use Rattle.types.specs.Memory.{Holds}
use Rattle.types.specs.declared.Counters.{Counters}
use Rattle.types.proofs.Tests.{not_true}
use Rattle.types.proofs.Lists.{below_at}
use Rattle.node_store.specs.Inner.Stored.{InRange}
use Rattle.node_reading.specs.Inner.{KindAt}
use Rattle.recursion.proofs.Members.{index_of, member_at}
use Rattle.simplification.specs.Pass.{is_decided}
use Rattle.simplification.proofs.Members.{decided_by}
use Rattle.member_lists.specs.Inner.Members.{DecidingOf, Gathering, Decides}
use Rattle.member_lists.proofs.BoundKinds.{bound_told}

-- the node n is not the bound that decides
abbrev Other : List ℕ → List ℕ → Counters → ℕ → ℕ → Type 0
Other w s c number n = (table : ℕ) (a : Arena) (k : Polarity) → Holds table w s c a → number ≡ disc (kind (members k)) → tag (at a n) ≡ bound (opposite k) → ⊥

-- the member n is
abbrev Decider : List ℕ → List ℕ → Counters → ℕ → List ℕ → ℕ → Type 0
Decider w s c number ms n = (table : ℕ) (a : Arena) (k : Polarity) → Holds table w s c a → number ≡ disc (kind (members k)) → Mem n ms × (tag (at a n) ≡ bound (opposite k))

pub record Undecided (w s : List ℕ) (c : Counters) (number : ℕ) (ms : List ℕ) (wanted i : ℕ) : Type 0 where
  pub gathering : Gathering w s c number ms
  pub deciding : DecidingOf number wanted
  pub high : i ≤ length ms
  pub each : (j : ℕ) → j < i → Other w s c number (get_or ms j 0)

module _ {w s : List ℕ} {c : Counters} {number : ℕ} {ms : List ℕ} {wanted : ℕ} where
  pub undecided_start : Gathering w s c number ms → DecidingOf number wanted → Undecided w s c number ms wanted 0
  undecided_start G D = record { gathering = G; deciding = D; high = omega arith; each = λ j l. absurd (omega arith) }

  module _ {i : ℕ} (U : Undecided w s c number ms wanted i) where
    pub undecided_done : length ms ≤ i → Decides w s c number ms None
    undecided_done h = record {
      by = λ n e. let z : ◌≡◌ {A = ℕ} 0 1 = cc in absurd (omega arith);
      not = λ e table a k H q. not_true (is_decided k a ms) (λ d.
          let D = decided_by k a ms d in
          let j = index_of D.1 in
          U.each j.index (omega (arith, j.inside)) table a k H q (ap (λ (n : ℕ). tag (at a n)) j.is ∙ D.2));
    }

    module _ (l : i < length ms) where
      pub undecided_in : InRange w s c (get_or ms i 0)
      undecided_in = record { lent = U.gathering.lent; inside = below_at c.nodes ms U.gathering.low i l }

      module _ {own : ℕ} (K : KindAt w s c (get_or ms i 0) own) where
        pub undecided_hit : own ≡ wanted → Decides w s c number ms (Some (get_or ms i 0))
        undecided_hit q = record { by = λ n f. subst (Decider w s c number ms) (cc) found; not = λ f. let z : ◌≡◌ {A = ℕ} 0 1 = cc in absurd (omega arith) }
          where
            found : Decider w s c number ms (get_or ms i 0)
            found table a k H p = (member_at ms i l, bound_told (tag (at a (get_or ms i 0))) (opposite k) (sym (K.is table a H) ∙ q ∙ U.deciding.is k p))

        pub undecided_more : (own ≡ wanted → ⊥) → Undecided w s c number ms wanted (i + 1)
        undecided_more f = record {
          gathering = U.gathering;
          deciding = U.deciding;
          high = omega arith;
          each = below_more _ _ U.each (λ table a k H p t. f (K.is table a H ∙ ap (λ (u : Tag). disc (kind u)) t ∙ sym (U.deciding.is k p)));
        }
