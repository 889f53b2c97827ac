use Rattle.name_matching.proofs.Merging.{read_start, left_passed, right_passed, read_next}
use Rattle.name_matching.proofs.match_names.Goals as goal

pub loop-r-init : goal.loop-r-init
loop-r-init c = search read_start

pub returns-else-r-right : goal.returns-else-r-right
returns-else-r-right c = search right_passed

pub step-r-requires : goal.step-r-requires
step-r-requires c = search read_next

pub returns-after-loop-r : goal.returns-after-loop-r
returns-after-loop-r c = search left_passed
