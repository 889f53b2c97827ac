use borrow.Author.Rules.{rules}
use Rattle.words.specs.Words.{head_count}
use Rattle.words.proofs.arc_ty.Head.count.Goals as goal

pub returns : goal.returns
unfolding head_count
returns c = search rules
