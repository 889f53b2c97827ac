-- Two cases: a node without children, and one whose children are exchanged.
use Rattle.copying.proofs.InternCopies.{copy_here, leaf_fresh, leaf_absent, leaf_copied, copy_exchanging, copy_fits, copy_prefix, copy_length, copy_fresh, copy_absent, copied}
use Rattle.copying.proofs.intern_copy.Goals as goal

pub node_at-node-requires : goal.node_at-node-requires
node_at-node-requires c = search copy_here

pub add_node-requires-clause-fresh : goal.add_node-requires-clause-fresh
add_node-requires-clause-fresh c = search leaf_fresh

pub add_node-requires-clause-absent : goal.add_node-requires-clause-absent
add_node-requires-clause-absent c = search leaf_absent

pub returns-then-count-eq0 : goal.returns-then-count-eq0
returns-then-count-eq0 c = search leaf_copied

pub exchange-requires : goal.exchange-requires
exchange-requires c = search copy_exchanging

pub overflow_add-len : goal.overflow_add-len
overflow_add-len c = search copy_fits

pub slice_bounds-new-end : goal.slice_bounds-new-end
slice_bounds-new-end c = search copy_prefix

pub slice_bounds-add_node-end : goal.slice_bounds-add_node-end
slice_bounds-add_node-end c = search copy_length

pub add_node-requires-2-clause-fresh : goal.add_node-requires-2-clause-fresh
add_node-requires-2-clause-fresh c = search copy_fresh

pub add_node-requires-2-clause-absent : goal.add_node-requires-2-clause-absent
add_node-requires-2-clause-absent c = search copy_absent

pub returns : goal.returns
returns c = search copied
