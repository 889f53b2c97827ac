use borrow.Author.Rules.{rules}
use Rattle.words.specs.Words.{head_kind}
use Rattle.words.proofs.arc_ty.Head.kind.Goals as goal

pub returns : goal.returns
unfolding head_kind
returns c = search rules
