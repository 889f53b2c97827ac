-- `bodies_order` splits each body into its field words and the others.
use Rattle.node_order.proofs.Splits.{fields_taken, bodies_told}
use Rattle.node_order.proofs.bodies_order.Goals as goal

pub slice_bounds-parts_order-end : goal.slice_bounds-parts_order-end
slice_bounds-parts_order-end c = search fields_taken

pub slice_bounds-parts_order-end-3 : goal.slice_bounds-parts_order-end-3
slice_bounds-parts_order-end-3 c = search fields_taken

pub returns : goal.returns
returns c = search bodies_told
