-- What a question answers on each of its ways.
use Prim.Native.Nat.{ℕ, ◌<◌, ◌≤◌}
use mathlib.Core.Path.{◌≡◌, sym, ap, ◌∙◌, subst}
use mathlib.Core.List.{List}
use native.Mathlib.Omega.{arith}
use Rattle.std.specs.Prelude.{Ok, Err}
use Rattle.types.specs.declared.refusal.Refusal.{Refusal}
use Rattle.types.specs.declared.refusal.Refusal.TheVariants as refusal
use Rattle.types.specs.Out.{Out}
use Rattle.types.specs.Arena.{Arena}
use Rattle.types.specs.declared.Counters.{Counters}
use Rattle.types.proofs.Replies.{rooted_no, rooted_yes}
use Rattle.names.specs.Table.{Name}
use Rattle.soundness.specs.Inner.Sound.{lent_reply}
use Rattle.soundness.proofs.Verdicts.{lent_refused, lent_done}
use Rattle.walks.specs.Asked.{asking, ask_reply}
use Rattle.walks.specs.Inner.Asked.{Says, Answers}

module _ {A : Type 0} (q : Arena → ℕ → A) where
  abbrev said : ℕ → Arena → Out A
  said root a = Ok (q a root)

  module _ {w s : List ℕ} {c : Counters} {root : ℕ} where
    pub root_out : c.nodes ≤ root → Answers q w s c root (Err refusal.NoSuchRoot)
    unfolding asking
    root_out h = record { is = λ table a H. sym (rooted_no root (said root) a (omega (arith, H.nodes))) }

    pub root_in : root < c.nodes → {r : A} → Says q w s c root r → Answers q w s c root (Ok r)
    unfolding asking
    root_in h S = record { is = λ table a H. ap Ok (S.is table a H) ∙ sym (rooted_yes root (said root) a (subst (λ (k : ℕ). root < k) H.nodes h)) }

  module _ (t w s : List ℕ) (c : Counters) (root : ℕ) where
    pub ask_refused : {e : Refusal} → Err e ≡ lent_reply t w s c → Err e ≡ ask_reply q t w s c root
    unfolding ask_reply
    ask_refused e = lent_refused t w s c (λ (ns : List Name). asking q root) e

    pub ask_done : {k x : ℕ} {o : Out A} → Ok k ≡ lent_reply t w s c → x ≡ root → Answers q w s c x o → o ≡ ask_reply q t w s c root
    unfolding ask_reply
    ask_done e u I = lent_done t w s c e (asking q root) (λ k a H. I.is k a H ∙ (λ i. asking q (u i) a))
