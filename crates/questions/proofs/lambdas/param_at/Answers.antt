-- The kind of the node, then that of its first child.
use Rattle.questions.proofs.Sharing.{no_lambda, param_here, no_variable, takes_one}
use Rattle.questions.proofs.lambdas.param_at.Goals as goal

pub returns-then-kind_at-ne-LAMBDA : goal.returns-then-kind_at-ne-LAMBDA
returns-then-kind_at-ne-LAMBDA c = search no_lambda

pub kind_at-requires-2 : goal.kind_at-requires-2
kind_at-requires-2 c = search param_here

pub returns-then-kind_at-ne-TY_VAR : goal.returns-then-kind_at-ne-TY_VAR
returns-then-kind_at-ne-TY_VAR c = search no_variable

pub returns : goal.returns
returns c = search takes_one
