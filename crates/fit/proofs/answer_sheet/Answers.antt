-- A sheet that was read lies in memory, and its table in its bytes.
use mathlib.Core.Path.{refl}
use Rattle.types.proofs.Refusals.{passed_on}
use Rattle.fit.proofs.Answering.{sheet_refused, table_low, table_high, sheet_in, sheet_told}
use Rattle.fit.proofs.answer_sheet.Goals as goal

pub returns-in_err-read : goal.returns-in_err-read
returns-in_err-read c = passed_on c.from_residual.ensures.1 (sheet_refused c.args.bytes.now c.in_err-read.ensures refl)

pub slice_bounds-answer_fix-count : goal.slice_bounds-answer_fix-count
slice_bounds-answer_fix-count c = table_low c.args.bytes.now c.in_ok-read.ensures refl

pub slice_bounds-answer_fix-start : goal.slice_bounds-answer_fix-start
slice_bounds-answer_fix-start c = table_low c.args.bytes.now c.in_ok-read.ensures refl

pub slice_bounds-answer_fix-end : goal.slice_bounds-answer_fix-end
slice_bounds-answer_fix-end c = table_high c.args.bytes.now c.in_ok-read.ensures refl

pub answer_fix-requires : goal.answer_fix-requires
answer_fix-requires c = sheet_in c.args.bytes.now c.in_ok-read.ensures refl

pub returns : goal.returns
returns c = sheet_told c.args.bytes.now c.in_ok-read.ensures refl c.answer_fix.ensures
