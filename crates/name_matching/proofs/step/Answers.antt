-- The lesser name is passed, or both.
use Rattle.name_matching.proofs.Merging.{left_few, left_byte, left_next, right_next, step_less, step_equal, step_greater}
use Rattle.names.specs.Inner.{name_end}
use borrow.Author.Rules.{rules}
use Rattle.name_matching.proofs.step.Goals as goal

pub slice_bounds-compare-count : goal.slice_bounds-compare-count
unfolding name_end
slice_bounds-compare-count c = search rules

pub slice_bounds-compare-start : goal.slice_bounds-compare-start
unfolding name_end
slice_bounds-compare-start c = search rules

pub slice_bounds-compare-end : goal.slice_bounds-compare-end
unfolding name_end
slice_bounds-compare-end c = search rules

pub slice_bounds-compare-count-2 : goal.slice_bounds-compare-count-2
unfolding name_end
slice_bounds-compare-count-2 c = search rules

pub slice_bounds-compare-start-2 : goal.slice_bounds-compare-start-2
unfolding name_end
slice_bounds-compare-start-2 c = search rules

pub slice_bounds-compare-end-2 : goal.slice_bounds-compare-end-2
unfolding name_end
slice_bounds-compare-end-2 c = search rules

pub overflow_add-result : goal.overflow_add-result
overflow_add-result c = search left_next

pub overflow_add-names : goal.overflow_add-names
overflow_add-names c = search right_next

pub offset_bounds-names-i : goal.offset_bounds-names-i
offset_bounds-names-i c = search left_byte

pub bounds-names-i : goal.bounds-names-i
bounds-names-i c = search left_few

pub overflow_add-result-in-Equal : goal.overflow_add-result-in-Equal
overflow_add-result-in-Equal c = search left_next

pub overflow_add-result-in-Equal-2 : goal.overflow_add-result-in-Equal-2
overflow_add-result-in-Equal-2 c = search right_next

pub overflow_add-result-in-Greater : goal.overflow_add-result-in-Greater
overflow_add-result-in-Greater c = search right_next

pub returns-in-Less : goal.returns-in-Less
returns-in-Less c = step_less c.requires c.end_of-left_end.ensures c.end_of-right_end.ensures c.compare-order.ensures (search rules)

pub returns-in-Equal : goal.returns-in-Equal
returns-in-Equal c = step_equal c.requires c.end_of-left_end.ensures c.end_of-right_end.ensures c.compare-order.ensures (search rules)

pub returns-in-Greater : goal.returns-in-Greater
returns-in-Greater c = step_greater c.requires c.end_of-left_end.ensures c.end_of-right_end.ensures c.compare-order.ensures (search rules)
