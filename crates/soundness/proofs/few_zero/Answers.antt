use Rattle.soundness.proofs.Zeros.{ones_start, ones_more, ones_done}
use Rattle.soundness.proofs.few_zero.Goals as goal

pub loop-word-init : goal.loop-word-init
loop-word-init c = search ones_start

pub loop-word-preserved : goal.loop-word-preserved
loop-word-preserved c = search ones_more

pub returns : goal.returns
returns c = search ones_done
