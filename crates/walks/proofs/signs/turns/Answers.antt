-- The two kinds that turn a sign.
use Rattle.walks.proofs.Additions.{turned_is}
use Rattle.walks.proofs.signs.turns.Goals as goal

pub returns : goal.returns
returns c = search turned_is
