use Rattle.fitting.proofs.Joining.{joining_done}
use Rattle.fitting.proofs.joined.join.Goals as goal

pub returns : goal.returns
returns c = search joining_done
