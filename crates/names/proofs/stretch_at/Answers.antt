use Rattle.names.specs.Inner.{name_end}
use Rattle.names.proofs.Walking.{walk_start, walk_here, walk_more, walk_end}
use borrow.Author.Rules.{rules}
use Rattle.names.proofs.stretch_at.Goals as goal

pub loop-at-init : goal.loop-at-init
loop-at-init c = search walk_start

pub overflow_sub-length : goal.overflow_sub-length
unfolding name_end
overflow_sub-length c = search rules

pub returns-then-left-eq0 : goal.returns-then-left-eq0
returns-then-left-eq0 c = search walk_here

pub loop-at-smaller : goal.loop-at-smaller
unfolding name_end
loop-at-smaller c = search rules

pub loop-at-preserved : goal.loop-at-preserved
loop-at-preserved c = search walk_more

pub returns : goal.returns
returns c = search walk_end
