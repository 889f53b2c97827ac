use borrow.Author.Rules.{rules}
use Rattle.words.specs.Words.{head_zero}
use Rattle.words.proofs.arc_ty.Head.zero.Goals as goal

pub returns : goal.returns
unfolding head_zero
returns c = search rules
