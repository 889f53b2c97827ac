-- What a node must keep is tested in turn: it ends within the words in use, has no fault, and is no node read before.
use Rattle.soundness.proofs.Checks.{count_fits, next_end, next_long, next_fault, next_searched, next_covered, next_twice, next_good, passed_words, passed_starts, none_set, node_set}
use Rattle.soundness.proofs.next_node.Goals as goal

pub returns-then-at-used-clause-next : goal.returns-then-at-used-clause-next
returns-then-at-used-clause-next c = search next_end

pub returns-then-at-used-clause-next_sets : goal.returns-then-at-used-clause-next_sets
returns-then-at-used-clause-next_sets c = search none_set

pub overflow_add-len : goal.overflow_add-len
overflow_add-len c = search count_fits

pub returns-then-used-at-clause-next : goal.returns-then-used-at-clause-next
returns-then-used-at-clause-next c = search next_long

pub returns-then-used-at-clause-next_sets : goal.returns-then-used-at-clause-next_sets
returns-then-used-at-clause-next_sets c = search none_set

pub returns-then-is_err-clause-next : goal.returns-then-is_err-clause-next
returns-then-is_err-clause-next c = search next_fault

pub returns-then-is_err-clause-next_sets : goal.returns-then-is_err-clause-next_sets
returns-then-is_err-clause-next_sets c = search none_set

pub slice_bounds-find_filtered-end : goal.slice_bounds-find_filtered-end
slice_bounds-find_filtered-end c = search passed_words

pub slice_bounds-find_filtered-end-2 : goal.slice_bounds-find_filtered-end-2
slice_bounds-find_filtered-end-2 c = search passed_starts

pub find_filtered-requires-clause-searched : goal.find_filtered-requires-clause-searched
find_filtered-requires-clause-searched c = next_searched _ c.requires.passed c.check_node.ensures c.is_err.ensures.value c.if-is_err.false

pub find_filtered-requires-clause-covers_lent : goal.find_filtered-requires-clause-covers_lent
find_filtered-requires-clause-covers_lent c = next_covered c.requires

pub returns-in-Some-clause-next : goal.returns-in-Some-clause-next
returns-in-Some-clause-next c = search next_twice

pub returns-in-Some-clause-next_sets : goal.returns-in-Some-clause-next_sets
returns-in-Some-clause-next_sets c = search none_set

pub returns-clause-next : goal.returns-clause-next
returns-clause-next c = search next_good

pub returns-clause-next_sets : goal.returns-clause-next_sets
returns-clause-next_sets c = search node_set
