-- The call over the run: 6, a refused run taken back, and 1 and 2 of both arenas.
use Prim.Native.Nat.{ℕ, ◌<◌, ◌≤◌}
use mathlib.Core.Path.{◌≡◌, sym, ap, ◌∙◌}
use mathlib.Core.List.{List}
use native.Mathlib.Omega.{arith}
use lib.ListN.{length}
use Rattle.std.specs.Prelude.{Ok, Err}
use Rattle.types.specs.declared.refusal.Refusal.TheVariants as refusal
use Rattle.types.specs.declared.refusal.Refusal.{Refusal}
use Rattle.types.specs.Out.{Out}
use Rattle.types.specs.Arena.{Arena}
use Rattle.types.specs.Reply.{reply_of, rooted}
use Rattle.types.specs.declared.Counters.{Counters}
use Rattle.types.proofs.Replies.{rooted_no, rooted_yes}
use Rattle.names.specs.Table.{Name}
use Rattle.node_store.specs.Intern.{left}
use Rattle.soundness.specs.Lent.{lent_to}
use Rattle.soundness.specs.Inner.Sound.{lent_reply}
use Rattle.soundness.specs.Inner.Sides.{Side}
use Rattle.soundness.proofs.Sides.{side_known, refused_to, side_to}
use Rattle.recursion.specs.Inner.Work.{TakesBackNodes}
use Rattle.recursion.proofs.Hosts.{finished, stopped, held_reply, back_reply}
use Rattle.import.specs.Import.{import_reply}
use Rattle.import.specs.Inner.{imports, Sides, ImportsIn, ImportsLent, ImportsJudged}

-- ---- 6, and the run
module _ {t w s : List ℕ} {c : Counters} {root i : ℕ} {tt tw ts : List ℕ} {d : Counters} (e : i ≡ root) where
  pub no_root : c.nodes ≤ i → ImportsLent t w s c root tt tw ts d tw ts (Err refusal.NoSuchRoot)
  unfolding reply_of
  no_root h = record { is = λ S T. sym (ap (reply_of tw ts d) (rooted_no root (imports S.names T.names tw ts root T.view) S.view (omega (arith, e, h, S.holds.nodes)))) }

  module _ (h : i < c.nodes) where
    run_is : (S : Side t w s c) (T : Side tt tw ts d) → rooted root (imports S.names T.names tw ts root T.view) S.view ≡ imports S.names T.names tw ts root T.view S.view
    run_is S T = rooted_yes root (imports S.names T.names tw ts root T.view) S.view (omega (arith, e, h, S.holds.nodes))

    module _ {tw' ts' : List ℕ} {r : Out (ℕ × Counters)} (I : ImportsIn t w s c root tt tw ts d tw' ts' r) where
      pub import_finished : {v : ℕ × Counters} → r ≡ Ok v → length tw' ≡ length tw → length ts' ≡ length ts → ImportsLent t w s c root tt tw ts d tw' ts' r
      import_finished {v} q lw ls = record {
        is = λ S T.
            let F = finished (I.is S T) q in
            ap (λ (z : Out (ℕ × Counters)). left d z tw' ts') q ∙ held_reply tw ts d lw ls F.holds v.0 ∙ sym (ap (reply_of tw ts d) (run_is S T ∙ F.is));
      }

      pub import_stopped : {u : Refusal} → r ≡ Err u → {tw'' ts'' : List ℕ} → TakesBackNodes tw' ts' d tw'' ts'' → length tw' ≡ length tw → length ts' ≡ length ts → ImportsLent t w s c root tt tw ts d tw'' ts'' (Err u)
      import_stopped {u} q B lw ls = record {
        is = λ S T.
            let F = stopped (I.is S T) q in
            back_reply tw ts d lw ls T.holds F.stands B u ∙ sym (ap (reply_of tw ts d) (run_is S T ∙ F.is));
      }

-- ---- the verdict of the target
abbrev in_target : List ℕ → List ℕ → ℕ → List Name → Arena → List Name → Arena → Out (ℕ × Arena)
in_target tw ts root ns u ms b = rooted root (imports ns ms tw ts root b) u

module _ (tt tw ts : List ℕ) (d : Counters) {t w s : List ℕ} {c : Counters} where
  pub target_refused : {root : ℕ} {e : Refusal} → Err e ≡ lent_reply tt tw ts d → ImportsJudged t w s c root tt tw ts d tw ts (Err e)
  unfolding reply_of
  target_refused {root} e = record { is = λ S. ap (reply_of tw ts d) (refused_to tt tw ts d (in_target tw ts root S.names S.view) e) }

  pub both_known : {k : ℕ} → Ok k ≡ lent_reply tt tw ts d → Side t w s c → Sides t w s c tt tw ts d
  both_known e S = record { source = S; target = side_known tt tw ts d e }

  pub target_done : {root k : ℕ} → Ok k ≡ lent_reply tt tw ts d → {tw' ts' : List ℕ} {r : Out (ℕ × Counters)} → ImportsLent t w s c root tt tw ts d tw' ts' r → ImportsJudged t w s c root tt tw ts d tw' ts' r
  target_done {root} e I = record {
    is = λ S. let T = side_known tt tw ts d e in I.is S T ∙ ap (reply_of tw ts d) (side_to T (in_target tw ts root S.names S.view));
  }

-- ---- the verdict of the source
abbrev in_source : List ℕ → List ℕ → List ℕ → Counters → ℕ → List Name → Arena → Out (ℕ × Arena)
in_source tt tw ts d root ns u = lent_to tt tw ts d (in_target tw ts root ns u)

module _ (t w s : List ℕ) (c : Counters) (root : ℕ) (tt tw ts : List ℕ) (d : Counters) where
  pub source_refused : {e : Refusal} → Err e ≡ lent_reply t w s c → left d (Err e) tw ts ≡ import_reply t w s c root tt tw ts d
  unfolding import_reply reply_of
  source_refused e = ap (reply_of tw ts d) (refused_to t w s c (in_source tt tw ts d root) e)

  pub source_done : {k : ℕ} → Ok k ≡ lent_reply t w s c → {tw' ts' : List ℕ} {r : Out (ℕ × Counters)} → ImportsJudged t w s c root tt tw ts d tw' ts' r → left d r tw' ts' ≡ import_reply t w s c root tt tw ts d
  unfolding import_reply
  source_done e I = let S = side_known t w s c e in I.is S ∙ ap (reply_of tw ts d) (side_to S (in_source tt tw ts d root))
