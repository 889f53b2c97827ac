-- Each arm is given that the answer is its variant's, at which `stored` computes.
use Rattle.lent_counters.proofs.Replies.{stored_node}
use Rattle.lent_counters.proofs.stored_of.Goals as goal

pub returns : goal.returns
returns c = stored_node c.in-Ok.is
