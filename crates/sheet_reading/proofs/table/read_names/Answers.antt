use Rattle.types.proofs.Refusals.{passed}
use Rattle.sheet_reading.proofs.Tabling.{turn_start, turn_here, turn_stop, turn_more, turn_done}
use Rattle.sheet_reading.proofs.table.read_names.Goals as goal

pub loop-init : goal.loop-init
loop-init c = search turn_start

pub read_name-requires : goal.read_name-requires
read_name-requires c = search turn_here

pub returns-in_err-end : goal.returns-in_err-end
returns-in_err-end c = rw (passed _ _ c.from_residual.ensures.1) (search (turn_stop, c.in_err-end.ensures))

pub loop-preserved : goal.loop-preserved
loop-preserved c = search (turn_more, c.in_ok-end.ensures)

pub returns : goal.returns
returns c = search turn_done
