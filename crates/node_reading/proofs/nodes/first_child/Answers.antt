-- A lambda has two children, and a named type and `Neg` one.
use Rattle.node_reading.proofs.NodeReads.{parent_here, child_there, child_read}
use Rattle.node_reading.proofs.nodes.first_child.Goals as goal

pub node_at-requires : goal.node_at-requires
node_at-requires c = search parent_here

pub bounds-body-0 : goal.bounds-body-0
bounds-body-0 c = search child_there

pub returns : goal.returns
returns c = search child_read
