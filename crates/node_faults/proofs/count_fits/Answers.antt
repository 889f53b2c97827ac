-- `count_fits` has a case for each kind whose count is not 1.
use Rattle.types.specs.Kind.{kind_of, body_count}
use Rattle.node_faults.specs.Inner.{count_fits}
use Rattle.node_faults.proofs.Heads.{count_none, count_at, count_dynamic, count_set, count_other}
use Rattle.node_faults.proofs.count_fits.Goals as goal

pub returns-then-kind-gt-NEG : goal.returns-then-kind-gt-NEG
returns-then-kind-gt-NEG c = search count_none

pub returns-in-0 : goal.returns-in-0
unfolding count_fits body_count kind_of
returns-in-0 c = search count_at

pub returns-in-1 : goal.returns-in-1
unfolding count_fits body_count kind_of
returns-in-1 c = search count_at

pub returns-in-5 : goal.returns-in-5
unfolding count_fits body_count kind_of
returns-in-5 c = search count_at

pub returns-then-dynamic : goal.returns-then-dynamic
returns-then-dynamic c = search count_dynamic

pub returns-else-dynamic : goal.returns-else-dynamic
returns-else-dynamic c = search count_set

pub returns-in-7 : goal.returns-in-7
unfolding count_fits body_count kind_of
returns-in-7 c = search count_at

pub returns-in-8 : goal.returns-in-8
unfolding count_fits body_count kind_of
returns-in-8 c = search count_at

pub returns-in_default : goal.returns-in_default
returns-in_default c = search count_other
