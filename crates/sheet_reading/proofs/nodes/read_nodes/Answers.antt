use Rattle.types.proofs.Refusals.{passed}
use Rattle.sheet_reading.proofs.Storing.{turn_start, turn_ready, turn_covered, turn_stop, turn_more, turn_done}
use Rattle.sheet_reading.proofs.nodes.read_nodes.Goals as goal

pub loop-init : goal.loop-init
loop-init c = search turn_start

pub read_node-requires-clause-ready : goal.read_node-requires-clause-ready
read_node-requires-clause-ready c = search turn_ready

pub read_node-requires-clause-covers_lent : goal.read_node-requires-clause-covers_lent
read_node-requires-clause-covers_lent c = search turn_covered

pub returns-in_err-end : goal.returns-in_err-end
returns-in_err-end c = rw (passed _ _ c.from_residual.ensures.1) (search (turn_stop, c.in_err-end.ensures))

pub loop-preserved : goal.loop-preserved
loop-preserved c = search (turn_more, c.in_ok-end.ensures)

pub returns : goal.returns
returns c = search turn_done
