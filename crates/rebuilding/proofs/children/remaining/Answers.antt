use Rattle.rebuilding.proofs.Copying.{copied_start, copied_here, copied_more, copied_done}
use Rattle.rebuilding.proofs.children.remaining.Goals as goal

pub loop-word-init : goal.loop-word-init
loop-word-init c = search copied_start

pub is_dropped-dropped-requires : goal.is_dropped-dropped-requires
is_dropped-dropped-requires c = search copied_here

pub loop-word-preserved : goal.loop-word-preserved
loop-word-preserved c = search copied_more

pub returns : goal.returns
returns c = search copied_done
