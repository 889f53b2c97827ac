-- 1 and 2 of one of the arenas that a call is lent: what is known after them, and what the call answers.
use Prim.Native.Nat.{ℕ}
use mathlib.Core.Path.{◌≡◌, sym, ◌∙◌, subst}
use mathlib.Core.List.{List}
use lib.ListN.{length}
use Rattle.std.specs.Prelude.{Ok, Err}
use Rattle.types.specs.declared.refusal.Refusal.{Refusal}
use Rattle.types.specs.Out.{Out}
use Rattle.types.specs.Arena.{Arena}
use Rattle.types.specs.Memory.{Holds}
use Rattle.types.specs.Reply.{judged}
use Rattle.types.specs.declared.Counters.{Counters}
use Rattle.types.proofs.Replies.{tabled_yes, judged_yes}
use Rattle.names.specs.Table.{Name, names_of}
use Rattle.node_store.specs.Inner.Stored.{Lent}
use Rattle.soundness.specs.Lent.{lent_to}
use Rattle.soundness.specs.Inner.Sound.{lent_reply}
use Rattle.soundness.specs.Inner.Sides.{Side}
use Rattle.soundness.proofs.Verdicts.{lent_names, lent_refused}

pub side_lent : {t w s : List ℕ} {c : Counters} → Side t w s c → Lent w s c
side_lent S = record { table = length S.names; view = S.view; holds = S.holds }

module _ (t w s : List ℕ) (c : Counters) where
  pub side_known : {k : ℕ} → Ok k ≡ lent_reply t w s c → Side t w s c
  side_known e =
      let H = lent_names t w s c e in
      record { names = H.names; is = H.is; view = H.view; holds = subst (λ (i : ℕ). Holds i w s c H.view) H.count H.holds }

  pub refused_to : {A : Type 0} (f : List Name → Arena → Out A) {k : Refusal} → Err k ≡ lent_reply t w s c → Err k ≡ lent_to t w s c f
  unfolding lent_to
  refused_to f e = lent_refused t w s c f e

pub side_to : {A : Type 0} {t w s : List ℕ} {c : Counters} (S : Side t w s c) (f : List Name → Arena → Out A) → f S.names S.view ≡ lent_to t w s c f
unfolding lent_to
side_to {t = t} {w = w} {s = s} {c = c} S f =
    sym (tabled_yes (λ (ns : List Name). judged (length ns) w s c (f ns)) (names_of t) S.names S.is ∙ judged_yes (length S.names) w s c (f S.names) S.view S.holds)
