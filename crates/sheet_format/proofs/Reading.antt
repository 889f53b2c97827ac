-- The sheet as read: its table lies in the input, its arena in memory, and what it becomes is what the bytes become.
use Prim.Native.Nat.{ℕ, ◌-◌, ◌≤◌}
use mathlib.Core.Path.{◌≡◌, sym, ap, ◌∙◌, subst}
use mathlib.Core.List.{List}
use lib.ListN.{length, take, drop}
use Rattle.std.specs.Prelude.{Ok, Err}
use Rattle.words.specs.declared.Layout.TheVariants as layout
use Rattle.types.specs.declared.refusal.Refusal.{Refusal}
use Rattle.types.specs.Out.{Out, ◌>>=◌}
use Rattle.sheet_reading.specs.Sheet.{Sheet, read_sheet}
use Rattle.sheet_reading.specs.Inner.Reading.{ReadsSheet}
use Rattle.sheet_reading.specs.declared.Contents.{Contents}
use Rattle.sheet_reading.proofs.Outcomes.{Read, read_as, refused_as}
use Rattle.sheet_format.specs.Line.{sheet_type, sheet_answer_in}
use Rattle.sheet_format.specs.Inner.{Gives, refused, SheetIn, AnswersType, Empty, AnswersSheet}
use Rattle.sheet_format.specs.declared.Answer.{Answer}

module _ {input w s : List ℕ} where
  module _ {r : Out Contents} (R : ReadsSheet layout.New input w s r) where
    pub sheet_refused : {e : Refusal} {text : List ℕ} → r ≡ Err e → AnswersSheet input text (Err e)
    unfolding sheet_answer_in ◌>>=◌
    sheet_refused {e} {text} q = record { is = subst (Gives text (Err e)) (sym (ap (λ (o : Out Sheet). o >>= sheet_type) (refused_as R.is q))) refused }

    module _ {p : Contents} (q : r ≡ Ok p) where
      found : Read input w s p.end p.counters p.root (read_sheet input)
      found = read_as R.is q

      pub table_low : 6 ≤ p.end
      table_low = found.low

      pub table_high : p.end ≤ length input
      table_high = found.high

      pub sheet_in : {w₀ s₀ text : List ℕ} → Empty w₀ s₀ text → length w ≡ length w₀ → length s ≡ length s₀ → SheetIn (take (p.end - 6) (drop 6 input)) w s p.counters p.root text
      sheet_in E k l = record {
        sheet = found.result;
        table = found.table;
        holds = found.holds;
        inside = found.inside;
        all_words = k ∙ E.blank.all_words;
        all_starts = l ∙ E.blank.all_starts;
        all_text = E.all_text;
      }

      pub sheet_given : {text : List ℕ} {v : Out Answer} → AnswersType (take (p.end - 6) (drop 6 input)) w s p.counters p.root text v → AnswersSheet input text v
      unfolding sheet_answer_in ◌>>=◌
      sheet_given {text} {v} A = record {
        is = subst (Gives text v) (sym (ap (λ (o : Out Sheet). o >>= sheet_type) found.is)) (A.is found.result found.table found.holds found.root_is);
      }
