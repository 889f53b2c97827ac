use Rattle.sheet_reading.proofs.Renewing.{renewing_start, renewing_room, renewing_more, renewing_done}
use Rattle.sheet_reading.proofs.nodes.renew_node.Goals as goal

pub loop-i-init : goal.loop-i-init
loop-i-init c = search renewing_start

pub bounds-node-at : goal.bounds-node-at
bounds-node-at c = search renewing_room

pub bounds-node-at-in-loop-i : goal.bounds-node-at-in-loop-i
bounds-node-at-in-loop-i c = search renewing_room

pub loop-i-preserved : goal.loop-i-preserved
loop-i-preserved c = search renewing_more

pub returns : goal.returns
returns c = search renewing_done
