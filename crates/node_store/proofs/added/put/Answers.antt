use Rattle.node_store.proofs.Loops.{writes_start, writes_more, writes_done}
use Rattle.node_store.proofs.added.put.Goals as goal

pub loop-i-init : goal.loop-i-init
loop-i-init c = search writes_start

pub loop-i-preserved : goal.loop-i-preserved
loop-i-preserved c = search writes_more

pub returns : goal.returns
returns c = search writes_done
