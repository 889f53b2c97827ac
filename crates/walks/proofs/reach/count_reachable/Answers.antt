-- The verdict's refusals; what follows them is that of `count_in`.
use Rattle.types.proofs.Refusals.{passed_on}
use Rattle.walks.proofs.Asking.{ask_refused, ask_done}
use Rattle.soundness.proofs.Verdicts.{lent_known}
use Rattle.walks.proofs.reach.count_reachable.Goals as goal

pub returns-in_err-judge : goal.returns-in_err-judge
returns-in_err-judge c = passed_on c.from_residual.ensures.1 (ask_refused _ _ _ _ _ _ c.in_err-judge.ensures)

pub count_in-requires : goal.count_in-requires
count_in-requires c = search (lent_known, c.in_ok-judge.ensures)

pub returns : goal.returns
returns c = search (ask_done, c.in_ok-judge.ensures)
