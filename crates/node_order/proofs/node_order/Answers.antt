-- `node_order` splits the words of each node into its head and its body.
use Rattle.node_order.proofs.Splits.{nodes_told}
use Rattle.node_order.proofs.node_order.Goals as goal

pub returns : goal.returns
returns c = search nodes_told
