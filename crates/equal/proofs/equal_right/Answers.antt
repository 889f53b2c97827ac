-- 1 and 2 of the right are the verdict's; what follows them is that of `equal_in`.
use Rattle.types.proofs.Refusals.{passed}
use Rattle.equal.proofs.Replying.{right_refused, both_known, right_done}
use Rattle.equal.proofs.equal_right.Goals as goal

pub equal_in-requires : goal.equal_in-requires
equal_in-requires c = search (both_known, c.in_ok-judge.ensures)

pub returns : goal.returns
returns c = search (right_done, c.in_ok-judge.ensures)

pub returns-in_err-judge : goal.returns-in_err-judge
returns-in_err-judge c = rw (passed _ _ c.from_residual.ensures.1) (right_refused _ _ _ _ c.in_err-judge.ensures)
