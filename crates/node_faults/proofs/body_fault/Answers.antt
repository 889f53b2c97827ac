-- `body_fault` has a case for each kind whose body is not child words.
use Rattle.types.specs.Kind.{kind_of}
use Rattle.types.specs.Node.{below, rising, children_of}
use Rattle.types.specs.Fault.{each_zero, body_fits_in}
use Rattle.node_faults.specs.Inner.{body_fault, kind_fault}
use Rattle.node_faults.proofs.KindFaults.{kind_none, kind_at, kind_other}
use Rattle.node_faults.proofs.body_fault.Goals as goal

pub returns-then-kind-gt-NEG : goal.returns-then-kind-gt-NEG
returns-then-kind-gt-NEG c = search kind_none

pub returns-in-0 : goal.returns-in-0
unfolding kind_of kind_fault body_fault body_fits_in each_zero below rising children_of
returns-in-0 c = search kind_at

pub returns-in-1 : goal.returns-in-1
unfolding kind_of kind_fault body_fault body_fits_in each_zero below rising children_of
returns-in-1 c = search kind_at

pub returns-in-2 : goal.returns-in-2
unfolding kind_of kind_fault body_fault body_fits_in below children_of
returns-in-2 c = search kind_at

pub returns-in-3 : goal.returns-in-3
unfolding kind_of kind_fault body_fault body_fits_in each_zero below rising children_of
returns-in-3 c = search kind_at

pub returns-in-6 : goal.returns-in-6
unfolding kind_of kind_fault
returns-in-6 c = search kind_at

pub returns-in-9 : goal.returns-in-9
unfolding kind_of kind_fault body_fault body_fits_in
returns-in-9 c = search kind_at

pub returns-in_default : goal.returns-in_default
returns-in_default c = search kind_other
