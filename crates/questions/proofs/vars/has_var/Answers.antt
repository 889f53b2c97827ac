use Rattle.questions.proofs.VarWalks.{knowing_start, knowing_row, knowing_more, knowing_done}
use Rattle.questions.proofs.vars.has_var.Goals as goal

pub loop-n-init : goal.loop-n-init
loop-n-init c = search knowing_start

pub learn-requires : goal.learn-requires
learn-requires c = search knowing_row

pub loop-n-preserved : goal.loop-n-preserved
loop-n-preserved c = search knowing_more

pub returns : goal.returns
returns c = search knowing_done
