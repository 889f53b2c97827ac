-- A node without a partner gets one; another has the one it has.
use Rattle.equal.proofs.Pairing.{pair_told}
use Rattle.equal.proofs.pairs.pair.Goals as goal

pub returns : goal.returns
returns c = search pair_told
