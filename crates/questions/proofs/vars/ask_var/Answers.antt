-- 1 and 2 are the verdict's; what follows them is that of `has_var_in`.
use Rattle.types.proofs.Refusals.{passed_on}
use Rattle.walks.proofs.Asking.{ask_refused, ask_done}
use Rattle.soundness.proofs.Verdicts.{lent_known}
use Rattle.questions.proofs.vars.ask_var.Goals as goal

pub has_var_in-requires : goal.has_var_in-requires
has_var_in-requires c = search (lent_known, c.in_ok-judge.ensures)

pub returns : goal.returns
returns c = search (ask_done, c.in_ok-judge.ensures)

pub returns-in_err-judge : goal.returns-in_err-judge
returns-in_err-judge c = passed_on c.from_residual.ensures.1 (ask_refused _ _ _ _ _ _ c.in_err-judge.ensures)
