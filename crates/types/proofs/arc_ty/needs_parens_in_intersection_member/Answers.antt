use Rattle.types.specs.Parens.{parens_in_intersection_member}
use Rattle.types.proofs.Flags.{flags}
use Rattle.types.proofs.arc_ty.needs_parens_in_intersection_member.Goals as goal

pub returns-then-needs_parens_in_union_member : goal.returns-then-needs_parens_in_union_member
unfolding parens_in_intersection_member
returns-then-needs_parens_in_union_member c = search flags

pub returns-else-needs_parens_in_union_member : goal.returns-else-needs_parens_in_union_member
unfolding parens_in_intersection_member
returns-else-needs_parens_in_union_member c = search flags
