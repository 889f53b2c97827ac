-- 1 and 2 are the verdict's; what follows them is that of `unwrap_in`.
use Rattle.types.proofs.Refusals.{passed_on}
use Rattle.walks.proofs.Asking.{ask_refused, ask_done}
use Rattle.soundness.proofs.Verdicts.{lent_known}
use Rattle.questions.proofs.named.unwrap_named.Goals as goal

pub unwrap_in-requires : goal.unwrap_in-requires
unwrap_in-requires c = search (lent_known, c.in_ok-judge.ensures)

pub returns : goal.returns
returns c = search (ask_done, c.in_ok-judge.ensures)

pub returns-in_err-judge : goal.returns-in_err-judge
returns-in_err-judge c = passed_on c.from_residual.ensures.1 (ask_refused _ _ _ _ _ _ c.in_err-judge.ensures)
