-- The verdict's refusals; what follows them is that of `list_root`.
use Rattle.types.proofs.Refusals.{passed}
use Rattle.free_vars.proofs.Replies.{list_refused, list_done}
use Rattle.soundness.proofs.Verdicts.{lent_known}
use Rattle.free_vars.proofs.list_free_type_vars.Goals as goal

pub list_root-requires : goal.list_root-requires
list_root-requires c = search (lent_known, c.in_ok-judge.ensures)

pub returns : goal.returns
returns c = search (list_done, c.in_ok-judge.ensures)

pub returns-in_err-judge : goal.returns-in_err-judge
returns-in_err-judge c = rw (passed _ _ c.from_residual.ensures.1) (list_refused _ _ _ _ _ c.in_err-judge.ensures)
