-- The verdict's refusals; what follows them is that of `normalize_lent`.
use Rattle.types.proofs.Refusals.{passed}
use Rattle.soundness.proofs.Verdicts.{lent_known}
use Rattle.recursion.proofs.Hosts.{host_refused, host_done}
use Rattle.renumber.proofs.normalize_any.Goals as goal

pub returns-in_err-judge : goal.returns-in_err-judge
returns-in_err-judge c = rw (passed _ _ c.from_residual.ensures.1) (host_refused _ _ _ _ _ _ c.in_err-judge.ensures)

pub normalize_lent-requires : goal.normalize_lent-requires
normalize_lent-requires c = search (lent_known, c.in_ok-judge.ensures)

pub returns : goal.returns
returns c = search (host_done, c.in_ok-judge.ensures)
