-- 1 and 2 of the left are the verdict's; what follows them is that of `equal_right`.
use Rattle.types.proofs.Refusals.{passed_on}
use Rattle.soundness.proofs.Sides.{side_known}
use Rattle.equal.proofs.Replying.{left_refused, left_done}
use Rattle.equal.proofs.structurally_eq.Goals as goal

pub equal_right-requires : goal.equal_right-requires
equal_right-requires c = search (side_known, c.in_ok-judge.ensures)

pub returns : goal.returns
returns c = search (left_done, c.in_ok-judge.ensures)

pub returns-in_err-judge : goal.returns-in_err-judge
returns-in_err-judge c = passed_on c.from_residual.ensures.1 (left_refused _ _ _ _ _ _ _ _ _ _ c.in_err-judge.ensures)
