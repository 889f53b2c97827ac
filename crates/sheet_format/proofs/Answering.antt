-- The sheet in memory: `simplify_in` and `display_in` give what the definitions say of it.
use Prim.Native.Nat.{ℕ}
use mathlib.Core.Path.{◌≡◌, sym, ap, ◌∙◌, subst}
use mathlib.Core.List.{List}
use native.Mathlib.Omega.{arith}
use lib.ListN.{length, take}
use Rattle.std.specs.Prelude.{Ok, Err}
use Rattle.types.specs.declared.refusal.Refusal.{Refusal}
use Rattle.types.specs.Out.{Out, ◌>>=◌}
use Rattle.types.specs.Memory.{Holds}
use Rattle.types.specs.declared.Counters.{Counters}
use Rattle.types.proofs.Addresses.{start_room}
use Rattle.names.specs.Table.{IsTable}
use Rattle.names.proofs.Tables.{split_is}
use Rattle.node_store.specs.Inner.Stored.{InRange}
use Rattle.simplification.specs.Passes.{AfterPasses, simplify}
use Rattle.simplify.specs.Inner.{Simplifies}
use Rattle.simplify.specs.declared.Simplified.{Simplified}
use Rattle.simplify.proofs.Hosts.{Finished, finished, stopped}
use Rattle.spelling.specs.declared.Spelling.TheVariants as spelling
use Rattle.text_writing.specs.Text.{type_text}
use Rattle.display.specs.Reply.{displaying, left}
use Rattle.display.specs.Inner.{Displays}
use Rattle.sheet_reading.specs.Sheet.{Sheet}
use Rattle.sheet_format.specs.Line.{limited, printed, sheet_type}
use Rattle.sheet_format.specs.Inner.{Gives, type, refused, SheetIn, AnswersType}
use Rattle.sheet_format.proofs.Counting.{few_passes}
use Rattle.sheet_format.proofs.Texts.{text_fits, text_over}

module _ {t w s : List ℕ} {c : Counters} {root : ℕ} {text : List ℕ} (S : SheetIn t w s c root text) where
  module _ {w' s' : List ℕ} {r : Out Simplified} (R : Simplifies w s c root w' s' r) where
    pub after_range : {q : Simplified} → r ≡ Ok q → InRange w' s' q.counters q.root
    after_range e = let F = finished (R.is (length S.sheet.names) S.sheet.arena S.holds) e in
        record { lent = record { table = length S.sheet.names; view = F.result.arena; holds = F.holds }; inside = omega (arith, F.holds.nodes, F.low) }

    -- the run in the memory of a sheet is that of the definition
    run_is : (sh : Sheet) → root ≡ sh.root → simplify (length w) (length s) root sh.arena ≡ simplify 16384 4096 sh.root sh.arena
    run_is sh e = λ i. simplify (S.all_words i) (S.all_starts i) (e i) sh.arena

    pub type_stopped : {e : Refusal} → r ≡ Err e → AnswersType t w s c root text (Err e)
    unfolding sheet_type ◌>>=◌
    type_stopped {e} q = record {
      is = λ sh T H z.
          let o = sym (run_is sh z) ∙ (stopped (R.is (length sh.names) sh.arena H) q).is in
          subst (Gives text (Err e)) (sym (ap (λ (x : Out AfterPasses). x >>= printed sh) o)) refused;
    }

    module _ {u : Simplified} (q : r ≡ Ok u) {text' : List ℕ} {p : Out ℕ} (D : Displays spelling.Nix t w' s' u.counters u.root text text' p) where
      -- the text that was displayed is that of the definition
      module _ (sh : Sheet) (T : IsTable t sh.names) (H : Holds (length sh.names) w s c sh.arena) (z : root ≡ sh.root) where
        run : Finished (length sh.names) sh.arena w' s' u (simplify (length w) (length s) root sh.arena)
        run = finished (R.is (length sh.names) sh.arena H) q

        its_text : List ℕ
        its_text = type_text spelling.Nix sh.names run.result.arena run.result.root

        leads : simplify 16384 4096 sh.root sh.arena ≡ Ok run.result
        leads = sym (run_is sh z) ∙ run.is

        displayed_is : left p text' ≡ displaying text its_text
        unfolding its_text
        displayed_is =
            D.is (length sh.names) run.result.arena run.holds
            ∙ (λ i. displaying text (type_text spelling.Nix (split_is T i) run.result.arena (run.root i)))

        type_is : sheet_type sh ≡ (limited its_text >>= λ (x : List ℕ). Ok (record { root = run.result.root; passes = length run.result.taken; text = x }))
        unfolding sheet_type printed its_text ◌>>=◌
        type_is = ap (λ (o : Out AfterPasses). o >>= printed sh) leads

        text_refused : {e : Refusal} → p ≡ Err e → sheet_type sh ≡ Err e
        unfolding ◌>>=◌
        text_refused v = type_is ∙ ap (λ (o : Out (List ℕ)). o >>= λ (x : List ℕ). Ok (record { root = run.result.root; passes = length run.result.taken; text = x })) (text_over text its_text S.all_text v displayed_is)

        text_given : {m : ℕ} → p ≡ Ok m → Gives text' (Ok (record { root = u.root; passes = u.passes; length = m })) (sheet_type sh)
        unfolding ◌>>=◌
        text_given {m} v =
            let F = text_fits text its_text S.all_text v displayed_is in
            let e : sheet_type sh ≡ Ok (record { root = u.root; passes = u.passes; text = take m text' })
            = type_is ∙ ap (λ (o : Out (List ℕ)). o >>= λ (x : List ℕ). Ok (record { root = run.result.root; passes = length run.result.taken; text = x })) F.limit
            ∙ (λ i. Ok (record { root = sym run.root i; passes = sym run.count i; text = sym F.is i })) in
            subst (Gives text' (Ok (record { root = u.root; passes = u.passes; length = m }))) (sym e)
            (type
            (let M = run.holds in omega (arith, run.low, M.nodes, start_room M, M.few_starts))
            (omega (arith, run.count, few_passes 16384 4096 sh.root sh.arena leads))
            F.few
            F.inside)

      pub type_refused : {e : Refusal} → p ≡ Err e → AnswersType t w s c root text' (Err e)
      type_refused {e} v = record { is = λ sh T H z. subst (Gives text' (Err e)) (sym (text_refused sh T H z v)) refused }

      pub type_given : {m : ℕ} → p ≡ Ok m → AnswersType t w s c root text' (Ok (record { root = u.root; passes = u.passes; length = m }))
      type_given v = record { is = λ sh T H z. text_given sh T H z v }
