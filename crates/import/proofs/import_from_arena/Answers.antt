-- The verdict's refusals of the source; what follows them is that of `import_judged`.
use Rattle.types.proofs.Refusals.{passed}
use Rattle.soundness.proofs.Sides.{side_known}
use Rattle.import.proofs.Hosts.{source_refused, source_done}
use Rattle.import.proofs.import_from_arena.Goals as goal

pub returns-in_err-judge : goal.returns-in_err-judge
returns-in_err-judge c = rw (passed _ _ c.from_residual.ensures.1) (source_refused _ _ _ _ _ _ _ _ _ c.in_err-judge.ensures)

pub import_judged-requires : goal.import_judged-requires
import_judged-requires c = search (side_known, c.in_ok-judge.ensures)

pub returns : goal.returns
returns c = search (source_done, c.in_ok-judge.ensures)
