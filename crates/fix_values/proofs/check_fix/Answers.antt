use Rattle.fix_values.proofs.Checking.{checked_start, checked_many, checked_broken, checked_more, checked_done}
use Rattle.fix_values.proofs.check_fix.Goals as goal

pub loop-at-init : goal.loop-at-init
loop-at-init c = search checked_start

pub returns-then-n-ge1024 : goal.returns-then-n-ge1024
returns-then-n-ge1024 c = search checked_many

pub returns-in_default : goal.returns-in_default
returns-in_default c = search checked_broken

pub loop-at-preserved : goal.loop-at-preserved
loop-at-preserved c = search checked_more

pub returns : goal.returns
returns c = search checked_done
