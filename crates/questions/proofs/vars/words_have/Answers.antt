-- A variable has one; else the children decide that are not passed over.
use Rattle.questions.proofs.VarWalks.{is_variable, child_decides, body_decides}
use Rattle.questions.proofs.vars.words_have.Goals as goal

pub returns-then-kind-eq-TY_VAR : goal.returns-then-kind-eq-TY_VAR
returns-then-kind-eq-TY_VAR c = search is_variable

pub returns-then-skip-kind : goal.returns-then-skip-kind
returns-then-skip-kind c = search body_decides

pub returns : goal.returns
returns c = search child_decides
