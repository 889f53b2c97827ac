use Rattle.node_store.proofs.Loops.{agree_length, agree_start, agree_more, agree_fails, agree_done}
use Rattle.node_store.proofs.stored.same.Goals as goal

pub returns-then-a-b : goal.returns-then-a-b
returns-then-a-b c = search agree_length

pub loop-i-init : goal.loop-i-init
loop-i-init c = search agree_start

pub returns-then-a-i : goal.returns-then-a-i
returns-then-a-i c = search agree_fails

pub loop-i-preserved : goal.loop-i-preserved
loop-i-preserved c = search agree_more

pub returns : goal.returns
returns c = search agree_done
