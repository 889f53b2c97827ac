-- The words of the two nodes stand as the nodes do.
use Rattle.node_store.proofs.Stretches.{stands}
use Rattle.node_store.proofs.stored.order_of.Goals as goal

pub returns : goal.returns
returns c = search stands
