use borrow.Author.Rules.{rules}
use Rattle.words.specs.Words.{child}
use Rattle.words.proofs.arc_ty.child.Goals as goal

pub returns : goal.returns
unfolding child
returns c = search rules
