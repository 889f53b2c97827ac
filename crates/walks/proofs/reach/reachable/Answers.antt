-- A place of either sign.
use Rattle.walks.proofs.Counting.{either_sign}
use Rattle.walks.proofs.reach.reachable.Goals as goal

pub returns : goal.returns
returns c = search either_sign
