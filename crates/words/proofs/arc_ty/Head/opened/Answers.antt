use borrow.Author.Rules.{rules}
use Rattle.words.specs.Words.{head_open}
use Rattle.words.proofs.arc_ty.Head.opened.Goals as goal

pub returns : goal.returns
unfolding head_open
returns c = search rules
