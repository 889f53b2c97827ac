-- The words from the head on are copied from their own stretch, and the node with these words is added.
use Rattle.sheet_reading.proofs.Storing.{node_refused, node_low, node_high, node_stretch, node_room, node_share, node_not_added, node_added, nodes_refused, nodes_told}
use mathlib.Core.Path.{refl}
use Rattle.types.proofs.Refusals.{passed}
use Rattle.sheet_reading.proofs.nodes.read_node.Goals as goal

pub returns-in_err-end-clause-stores_node : goal.returns-in_err-end-clause-stores_node
returns-in_err-end-clause-stores_node c = rw (passed _ _ c.from_residual.ensures.1) (node_refused c.in_err-end.ensures refl)

pub returns-in_err-end-clause-covers_nodes : goal.returns-in_err-end-clause-covers_nodes
returns-in_err-end-clause-covers_nodes c = rw (passed _ _ c.from_residual.ensures.1) nodes_refused

pub slice_bounds-copy_node-count : goal.slice_bounds-copy_node-count
slice_bounds-copy_node-count c = search (node_low, c.in_ok-end.ensures)

pub slice_bounds-copy_node-start : goal.slice_bounds-copy_node-start
slice_bounds-copy_node-start c = search (node_low, c.in_ok-end.ensures)

pub slice_bounds-copy_node-end : goal.slice_bounds-copy_node-end
slice_bounds-copy_node-end c = search (node_high, c.in_ok-end.ensures)

pub copy_node-count-requires : goal.copy_node-count-requires
copy_node-count-requires c = search (node_stretch, c.in_ok-end.ensures)

pub slice_bounds-node-end : goal.slice_bounds-node-end
slice_bounds-node-end c = search (node_room, c.in_ok-end.ensures)

pub slice_bounds-add_node-end : goal.slice_bounds-add_node-end
slice_bounds-add_node-end c = search (node_share, c.in_ok-end.ensures)

pub returns-in_err-d-clause-stores_node : goal.returns-in_err-d-clause-stores_node
returns-in_err-d-clause-stores_node c = rw (passed _ _ c.from_residual-in_err-d.ensures.1) (node_not_added c.in_ok-end.ensures refl c.copy_node-count.ensures c.in_err-d.ensures.adds_node refl)

pub returns-in_err-d-clause-covers_nodes : goal.returns-in_err-d-clause-covers_nodes
returns-in_err-d-clause-covers_nodes c = rw (passed _ _ c.from_residual-in_err-d.ensures.1) nodes_refused

pub returns-clause-stores_node : goal.returns-clause-stores_node
returns-clause-stores_node c = node_added c.in_ok-end.ensures refl c.copy_node-count.ensures c.in_ok-d.ensures.adds_node refl

pub returns-clause-covers_nodes : goal.returns-clause-covers_nodes
returns-clause-covers_nodes c = nodes_told c.in_ok-d.ensures.covers_after refl
