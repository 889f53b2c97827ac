use borrow.Author.Rules.{rules}
use Rattle.types.specs.Parens.{parens_in_union_member}
use Rattle.types.proofs.arc_ty.needs_parens_in_union_member.Goals as goal

pub returns : goal.returns
unfolding parens_in_union_member
returns c = search rules
