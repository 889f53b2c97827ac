use Rattle.appending.proofs.Appending.{writes_over, writes_full, copying_start, copying_more, copying_done}
use Rattle.appending.proofs.append.Goals as goal

pub returns-then-count-text : goal.returns-then-count-text
returns-then-count-text c = search writes_over

pub returns-then-bytes-text : goal.returns-then-bytes-text
returns-then-bytes-text c = search writes_full

pub loop-i-init : goal.loop-i-init
loop-i-init c = search copying_start

pub loop-i-preserved : goal.loop-i-preserved
loop-i-preserved c = search copying_more

pub returns : goal.returns
returns c = search copying_done
