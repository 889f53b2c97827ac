use Rattle.fitting.proofs.Joining.{gathering_start, gathering_more, gathering_done}
use Rattle.fitting.proofs.joined.joined_row.Goals as goal

pub loop-word-init : goal.loop-word-init
loop-word-init c = search gathering_start

pub loop-word-preserved : goal.loop-word-preserved
loop-word-preserved c = search gathering_more

pub returns : goal.returns
returns c = search gathering_done
