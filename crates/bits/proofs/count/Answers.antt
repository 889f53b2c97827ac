use Rattle.bits.proofs.Steps.{counted_start, counted_more, counted_done}
use borrow.Author.Rules.{rules}
use Rattle.bits.proofs.count.Goals as goal

pub loop-word-init : goal.loop-word-init
loop-word-init c = search counted_start

pub loop-word-preserved : goal.loop-word-preserved
loop-word-preserved c = search (counted_more, rules)

pub returns : goal.returns
returns c = search counted_done
