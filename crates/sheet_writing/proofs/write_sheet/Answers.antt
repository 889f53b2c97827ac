-- The verdict's refusals; what the names and the memory are then known for.
use Rattle.types.proofs.Refusals.{passed}
use Rattle.sheet_writing.proofs.Replies.{known, sheet_refused, sheet_done}
use Rattle.sheet_writing.proofs.write_sheet.Goals as goal

pub write_root-requires : goal.write_root-requires
write_root-requires c = search (known, c.in_ok-names.ensures)

pub returns : goal.returns
returns c = search (sheet_done, c.in_ok-names.ensures)

pub returns-in_err-names : goal.returns-in_err-names
returns-in_err-names c = rw (passed _ _ c.from_residual.ensures.1) (sheet_refused _ _ _ _ _ _ c.in_err-names.ensures)
