-- `body_clean` has a case for each kind.
use Rattle.types.specs.Kind.{kind_of, body_count}
use Rattle.types.specs.Node.{below, rising, children_of}
use Rattle.types.specs.Fault.{each_zero, body_fits_in}
use Rattle.node_faults.specs.Inner.{count_fits, body_fault, kind_fault}
use Rattle.node_faults.proofs.CleanBodies.{clean_not, clean_at, counted_clean, code_clean, exact_clean}
use Rattle.node_faults.proofs.body_clean.Goals as goal

pub returns-in-0 : goal.returns-in-0
unfolding kind_of kind_fault count_fits body_count body_fault body_fits_in each_zero below rising children_of
returns-in-0 c = search (clean_at, counted_clean)

pub returns-in-1 : goal.returns-in-1
unfolding kind_of kind_fault count_fits body_count body_fault body_fits_in each_zero below rising children_of
returns-in-1 c = search (clean_at, counted_clean)

pub returns-in-2 : goal.returns-in-2
returns-in-2 c = search (clean_at, code_clean)

pub returns-in-3 : goal.returns-in-3
unfolding kind_of kind_fault count_fits body_count body_fault body_fits_in each_zero below rising children_of
returns-in-3 c = search (clean_at, counted_clean)

pub returns-in-4 : goal.returns-in-4
unfolding kind_of kind_fault count_fits body_count body_fault body_fits_in each_zero below rising children_of
returns-in-4 c = search (clean_at, exact_clean)

pub returns-in-5 : goal.returns-in-5
unfolding kind_of kind_fault count_fits body_count body_fault body_fits_in each_zero below rising children_of
returns-in-5 c = search (clean_at, exact_clean)

pub returns-in-7 : goal.returns-in-7
unfolding kind_of kind_fault count_fits body_count body_fault body_fits_in each_zero below rising children_of
returns-in-7 c = search clean_at

pub returns-in-8 : goal.returns-in-8
unfolding kind_of kind_fault count_fits body_count body_fault body_fits_in each_zero below rising children_of
returns-in-8 c = search clean_at

pub returns-in-9 : goal.returns-in-9
returns-in-9 c = search clean_at

pub returns-in-10 : goal.returns-in-10
unfolding kind_of kind_fault count_fits body_count body_fault body_fits_in each_zero below rising children_of
returns-in-10 c = search (clean_at, exact_clean)

pub returns-in_default : goal.returns-in_default
returns-in_default c = search clean_not
