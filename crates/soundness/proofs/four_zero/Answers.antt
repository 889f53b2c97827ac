use Rattle.soundness.proofs.Zeros.{four_start, four_more, four_done}
use Rattle.soundness.proofs.four_zero.Goals as goal

pub loop-i-init : goal.loop-i-init
loop-i-init c = search four_start

pub loop-i-preserved : goal.loop-i-preserved
loop-i-preserved c = search four_more

pub returns : goal.returns
returns c = search four_done
