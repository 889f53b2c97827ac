use Rattle.names.specs.Inner.{name_end}
use Rattle.names.proofs.Checking.{stage_long, stage_start, stage_full, stage_bad, stage_fits, stage_more, stage_odd, stage_done}
use borrow.Author.Rules.{rules}
use Rattle.names.proofs.check_names.Goals as goal

pub returns-then-table-gt65536 : goal.returns-then-table-gt65536
returns-then-table-gt65536 c = search stage_long

pub loop-at-init : goal.loop-at-init
loop-at-init c = search stage_start

pub returns-then-count-ge4096 : goal.returns-then-count-ge4096
returns-then-count-ge4096 c = search stage_full

pub slice_bounds-comes_next-count-in-loop-at : goal.slice_bounds-comes_next-count-in-loop-at
unfolding name_end
slice_bounds-comes_next-count-in-loop-at c = search rules

pub slice_bounds-comes_next-start-in-loop-at : goal.slice_bounds-comes_next-start-in-loop-at
unfolding name_end
slice_bounds-comes_next-start-in-loop-at c = search rules

pub slice_bounds-comes_next-end-in-loop-at : goal.slice_bounds-comes_next-end-in-loop-at
unfolding name_end
slice_bounds-comes_next-end-in-loop-at c = search rules

pub returns-then-not-comes_next : goal.returns-then-not-comes_next
returns-then-not-comes_next c = search stage_bad

pub overflow_add-lengths : goal.overflow_add-lengths
overflow_add-lengths c = search stage_fits

pub loop-at-smaller : goal.loop-at-smaller
unfolding name_end
loop-at-smaller c = search rules

pub loop-at-preserved : goal.loop-at-preserved
loop-at-preserved c = stage_more c.loop-at.invariant c.loop-at-test.true c.end_of-end.ensures c.comes_next.ensures (search rules) (search rules) c.odd-lengths.ensures

pub returns-then-count_odd-lengths : goal.returns-then-count_odd-lengths
returns-then-count_odd-lengths c = search stage_odd

pub returns : goal.returns
returns c = search stage_done
