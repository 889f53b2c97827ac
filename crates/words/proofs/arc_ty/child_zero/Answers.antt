use borrow.Author.Rules.{rules}
use Rattle.words.specs.Words.{child_zero}
use Rattle.words.proofs.arc_ty.child_zero.Goals as goal

pub returns : goal.returns
unfolding child_zero
returns c = search rules
