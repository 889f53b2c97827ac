-- The verdict's refusals of the target; what follows them is that of `import_lent`.
use Rattle.types.proofs.Refusals.{passed}
use Rattle.import.proofs.Hosts.{target_refused, both_known, target_done}
use Rattle.import.proofs.import_judged.Goals as goal

pub returns-in_err-judge : goal.returns-in_err-judge
returns-in_err-judge c = rw (passed _ _ c.from_residual.ensures.1) (target_refused _ _ _ _ c.in_err-judge.ensures)

pub import_lent-requires : goal.import_lent-requires
import_lent-requires c = both_known _ _ _ _ c.in_ok-judge.ensures c.requires

pub returns : goal.returns
returns c = search (target_done, c.in_ok-judge.ensures)
