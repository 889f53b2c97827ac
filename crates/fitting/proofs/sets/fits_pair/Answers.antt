-- The pair's bit is where its row begins, and as many bits on as the value's number says.
use Rattle.fitting.specs.Inner.Rows.{pair}
use borrow.Author.Rules.{rules}
use Rattle.fitting.proofs.sets.fits_pair.Goals as goal

pub returns : goal.returns
unfolding pair
returns c = search rules
