use borrow.Author.Rules.{rules}
use Rattle.types.specs.Parens.{parens_in_neg}
use Rattle.types.proofs.arc_ty.needs_parens_in_neg.Goals as goal

pub returns : goal.returns
unfolding parens_in_neg
returns c = search rules
