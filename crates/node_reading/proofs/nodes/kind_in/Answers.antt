-- No words, no head: the kind of 0.
use Rattle.node_reading.proofs.NodeReads.{no_head}
use Rattle.node_reading.proofs.nodes.kind_in.Goals as goal

pub returns-then-node-eq0 : goal.returns-then-node-eq0
returns-then-node-eq0 c = search no_head
