-- 1 and 2 are the verdict's; what follows them is that of `compare_in`.
use Rattle.types.proofs.Refusals.{passed}
use Rattle.arena.proofs.Comparisons.{compare_refused, compare_done}
use Rattle.soundness.proofs.Verdicts.{lent_known}
use Rattle.arena.proofs.compare.Goals as goal

pub returns-in_err-judge : goal.returns-in_err-judge
returns-in_err-judge c = rw (passed _ _ c.from_residual.ensures.1) (compare_refused _ _ _ _ _ _ c.in_err-judge.ensures)

pub compare_in-requires : goal.compare_in-requires
compare_in-requires c = search (lent_known, c.in_ok-judge.ensures)

pub returns : goal.returns
returns c = search (compare_done, c.in_ok-judge.ensures)
