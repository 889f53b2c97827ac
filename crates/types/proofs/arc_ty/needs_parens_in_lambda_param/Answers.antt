use Rattle.types.specs.Parens.{parens_in_lambda_param}
use Rattle.types.proofs.Flags.{flags}
use Rattle.types.proofs.arc_ty.needs_parens_in_lambda_param.Goals as goal

pub returns-then-needs_parens_in_intersection_member : goal.returns-then-needs_parens_in_intersection_member
unfolding parens_in_lambda_param
returns-then-needs_parens_in_intersection_member c = search flags

pub returns-else-needs_parens_in_intersection_member : goal.returns-else-needs_parens_in_intersection_member
unfolding parens_in_lambda_param
returns-else-needs_parens_in_intersection_member c = search flags
