-- The words made are those of the node with these children.
use Rattle.rebuilding.proofs.Interning.{length_fits, exchanging, prefix_in, prefix_length, fresh, rebuilt}
use Rattle.rebuilding.proofs.node.intern_with.Goals as goal

pub exchange-requires : goal.exchange-requires
exchange-requires c = search exchanging

pub overflow_add-len : goal.overflow_add-len
overflow_add-len c = search length_fits

pub slice_bounds-new-end : goal.slice_bounds-new-end
slice_bounds-new-end c = search prefix_in

pub slice_bounds-intern_filtered-end : goal.slice_bounds-intern_filtered-end
slice_bounds-intern_filtered-end c = search prefix_length

pub intern_filtered-requires-clause-fresh : goal.intern_filtered-requires-clause-fresh
intern_filtered-requires-clause-fresh c = fresh c.requires.rebuilding c.wide.ensures c.node_at.ensures c.requires.count_nonzero c.exchange.ensures

pub returns-clause-rebuilds : goal.returns-clause-rebuilds
returns-clause-rebuilds c = search rebuilt
