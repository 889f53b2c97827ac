use borrow.Author.Rules.{rules}
use Rattle.words.specs.Words.{head_dynamic}
use Rattle.words.proofs.arc_ty.Head.dynamic.Goals as goal

pub returns : goal.returns
unfolding head_dynamic
returns c = search rules
