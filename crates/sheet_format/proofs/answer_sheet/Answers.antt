-- A sheet that was read lies in memory, and its table in the input.
use mathlib.Core.Path.{refl}
use Rattle.types.proofs.Refusals.{passed}
use Rattle.sheet_format.proofs.Reading.{table_low, table_high, sheet_in, sheet_refused, sheet_given}
use Rattle.sheet_format.proofs.answer_sheet.Goals as goal

pub returns-in_err-sheet : goal.returns-in_err-sheet
returns-in_err-sheet c = rw (passed _ _ c.from_residual.ensures.1) (sheet_refused c.in_err-sheet.ensures refl)

pub slice_bounds-answer_type-count : goal.slice_bounds-answer_type-count
slice_bounds-answer_type-count c = table_low c.in_ok-sheet.ensures refl

pub slice_bounds-answer_type-start : goal.slice_bounds-answer_type-start
slice_bounds-answer_type-start c = table_low c.in_ok-sheet.ensures refl

pub slice_bounds-answer_type-end : goal.slice_bounds-answer_type-end
slice_bounds-answer_type-end c = table_high c.in_ok-sheet.ensures refl

pub answer_type-requires : goal.answer_type-requires
answer_type-requires c = search (sheet_in c.in_ok-sheet.ensures refl)

pub returns : goal.returns
returns c = sheet_given c.in_ok-sheet.ensures refl c.answer_type.ensures
