-- 1 where the table is refused, 4 where it has no name of that number.
use native.Mathlib.Omega.{arith}
use Rattle.types.proofs.Refusals.{passed}
use Rattle.names.proofs.Stretches.{stretch_refused, stretch_4, stretch_found}
use Rattle.names.proofs.name_stretch.Goals as goal

pub returns-in_err-count : goal.returns-in_err-count
returns-in_err-count c = rw (passed _ _ c.from_residual.ensures.1) (stretch_refused _ _ c.in_err-count.ensures)

pub returns-then-k-count : goal.returns-then-k-count
returns-then-k-count c = stretch_4 _ _ c.in_ok-count.ensures (omega arith)

pub returns : goal.returns
returns c = search (stretch_found, c.in_ok-count.ensures)
