-- The length, the sheet and the fix.
use Rattle.fit.proofs.Answering.{ends_in_length, length_over, ends_in_sheet, parts_told}
use Rattle.fit.proofs.answer.Goals as goal

pub returns-then-input-lt4 : goal.returns-then-input-lt4
returns-then-input-lt4 c = search ends_in_length

pub returns-then-length-gt65536 : goal.returns-then-length-gt65536
returns-then-length-gt65536 c = search length_over

pub returns-then-input-length : goal.returns-then-input-length
returns-then-input-length c = search ends_in_sheet

pub returns : goal.returns
returns c = search parts_told
