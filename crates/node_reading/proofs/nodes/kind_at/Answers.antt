-- The head of a formed node has the node's kind.
use Rattle.node_reading.proofs.NodeReads.{kind_read}
use Rattle.node_reading.proofs.nodes.kind_at.Goals as goal

pub returns : goal.returns
returns c = search kind_read
