-- What `compare` answers on each of its ways is what `compare_reply` says.
use Prim.Native.Nat.{ℕ, ◌<◌, ◌≤◌}
use mathlib.Core.Path.{◌≡◌, sym, ap, ◌∙◌}
use mathlib.Core.List.{List}
use native.Mathlib.Omega.{arith}
use Rattle.std.specs.Prelude.{Ok, Err}
use Rattle.types.specs.declared.refusal.Refusal.{Refusal}
use Rattle.types.specs.declared.refusal.Refusal.TheVariants as refusal
use Rattle.types.specs.Out.{Out}
use Rattle.types.specs.Arena.{Arena, at}
use Rattle.types.specs.Reply.{rooted}
use Rattle.types.specs.declared.Counters.{Counters}
use Rattle.std.specs.declared.cmp.Ordering.{Ordering}
use Rattle.types.proofs.Replies.{rooted_no, rooted_yes}
use Rattle.names.specs.Table.{Name}
use Rattle.node_order.specs.NodeOrder.{node_order}
use Rattle.node_store.specs.Inner.Stored.{Ordered}
use Rattle.soundness.specs.Inner.Sound.{lent_reply}
use Rattle.arena.specs.Compare.{comparing, compare_reply}
use Rattle.arena.specs.Inner.{ComparesIn}
use Rattle.soundness.proofs.Verdicts.{lent_refused, lent_done}

abbrev answer : ℕ → ℕ → Arena → Out Ordering
answer m n a = Ok (node_order (at a m) (at a n))

module _ {w s : List ℕ} {c : Counters} {m n : ℕ} where
  pub first_out : c.nodes ≤ m → ComparesIn w s c m n (Err refusal.NoSuchRoot)
  unfolding comparing
  first_out h = record { is = λ table a H. sym (rooted_no m (rooted n (answer m n)) a (omega (arith, H.nodes))) }

  module _ (h : m < c.nodes) where
    pub second_out : c.nodes ≤ n → ComparesIn w s c m n (Err refusal.NoSuchRoot)
    unfolding comparing
    second_out l = record {
      is = λ table a H. sym (rooted_yes m (rooted n (answer m n)) a (omega (arith, H.nodes)) ∙ rooted_no n (answer m n) a (omega (arith, H.nodes)));
    }

    module _ (l : n < c.nodes) where
      pub both_stand : {o : Ordering} → Ordered w s c m n o → ComparesIn w s c m n (Ok o)
      unfolding comparing
      both_stand O = record {
        is = λ table a H.
            ap Ok (O.is table a H)
            ∙ sym (rooted_yes m (rooted n (answer m n)) a (omega (arith, H.nodes)) ∙ rooted_yes n (answer m n) a (omega (arith, H.nodes)));
      }

module _ (t w s : List ℕ) (c : Counters) (m n : ℕ) where
  pub compare_refused : {e : Refusal} → Err e ≡ lent_reply t w s c → Err e ≡ compare_reply t w s c m n
  unfolding compare_reply
  compare_refused e = lent_refused t w s c (λ (ns : List Name). comparing m n) e

  pub compare_done : {k x y : ℕ} {o : Out Ordering} → Ok k ≡ lent_reply t w s c → x ≡ m → y ≡ n → ComparesIn w s c x y o → o ≡ compare_reply t w s c m n
  unfolding compare_reply
  compare_done e u v I = lent_done t w s c e (comparing m n) (λ k a H. I.is k a H ∙ (λ i. comparing (u i) (v i) a))
