use Rattle.member_sorting.proofs.Placing.{passed_next, passed_found, passed_more, passed_done}
use Rattle.member_sorting.proofs.place_of.Goals as goal

pub comes_before-requires-clause-in_range_2 : goal.comes_before-requires-clause-in_range_2
comes_before-requires-clause-in_range_2 c = search passed_next

pub returns-then-comes_before : goal.returns-then-comes_before
returns-then-comes_before c = search passed_found

pub loop-i-preserved : goal.loop-i-preserved
loop-i-preserved c = search passed_more

pub returns : goal.returns
returns c = search passed_done
