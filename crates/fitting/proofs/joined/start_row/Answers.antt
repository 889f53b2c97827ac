-- All values or none.
use Rattle.fitting.proofs.Joining.{row_full, row_none}
use Rattle.fitting.proofs.joined.start_row.Goals as goal

pub returns-then-full : goal.returns-then-full
returns-then-full c = search row_full

pub returns : goal.returns
returns c = search row_none
