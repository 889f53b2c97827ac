-- 1 where the table is refused, 2 where memory is unsound under it.
use Rattle.types.proofs.Refusals.{passed}
use Rattle.soundness.proofs.Verdicts.{verdict_1, verdict_2, verdict_names}
use Rattle.soundness.proofs.judge.Goals as goal

pub returns-in_err-count : goal.returns-in_err-count
returns-in_err-count c = rw (passed _ _ c.from_residual.ensures.1) (verdict_1 _ _ _ _ c.in_err-count.ensures)

pub returns-then-not-sound : goal.returns-then-not-sound
returns-then-not-sound c = search (verdict_2, c.in_ok-count.ensures)

pub returns : goal.returns
returns c = search (verdict_names, c.in_ok-count.ensures)
