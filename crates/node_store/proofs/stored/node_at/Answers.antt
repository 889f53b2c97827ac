-- The start says where the head stands, and the head how far the node goes.
use Rattle.node_store.proofs.Stretches.{in_starts, start_fits, in_words, head_fits, next_fits, end_room, end_fits, the_node}
use Rattle.node_store.proofs.stored.node_at.Goals as goal

pub offset_bounds-starts-n : goal.offset_bounds-starts-n
offset_bounds-starts-n c = search start_fits

pub bounds-starts-n : goal.bounds-starts-n
bounds-starts-n c = search in_starts

pub offset_bounds-words-at : goal.offset_bounds-words-at
offset_bounds-words-at c = search head_fits

pub bounds-words-at : goal.bounds-words-at
bounds-words-at c = search in_words

pub overflow_add-end : goal.overflow_add-end
overflow_add-end c = search next_fits

pub overflow_add-end-2 : goal.overflow_add-end-2
overflow_add-end-2 c = search end_fits

pub offset_bounds-words-at-2 : goal.offset_bounds-words-at-2
offset_bounds-words-at-2 c = search head_fits

pub slice_bounds-result-end : goal.slice_bounds-result-end
slice_bounds-result-end c = search end_room

pub returns : goal.returns
returns c = search the_node
