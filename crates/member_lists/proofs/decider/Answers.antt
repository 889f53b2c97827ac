use Rattle.member_lists.proofs.Decisions.{undecided_start, undecided_in, undecided_hit, undecided_more, undecided_done}
use Rattle.member_lists.proofs.decider.Goals as goal

pub loop-n-init : goal.loop-n-init
loop-n-init c = search undecided_start

pub kind_of-requires : goal.kind_of-requires
kind_of-requires c = search undecided_in

pub returns-then-kind_of-bound : goal.returns-then-kind_of-bound
returns-then-kind_of-bound c = search undecided_hit

pub loop-n-preserved : goal.loop-n-preserved
loop-n-preserved c = search undecided_more

pub returns : goal.returns
returns c = search undecided_done
