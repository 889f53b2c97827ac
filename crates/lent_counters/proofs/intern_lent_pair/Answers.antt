-- The three callees' contracts make the reply, as in `intern_lent`.
use Rattle.lent_counters.proofs.Replies.{lent_reply}
use Rattle.lent_counters.proofs.intern_lent_pair.Goals as goal

pub returns : goal.returns
returns c = search lent_reply
