-- The verdict's refusals; what follows them is that of `display_root`.
use Rattle.types.proofs.Refusals.{passed}
use Rattle.display.proofs.Replies.{print_refused, print_done}
use Rattle.soundness.proofs.Verdicts.{lent_known, lent_listable}
use Rattle.display.proofs.print.Goals as goal

pub display_root-requires-clause-lent : goal.display_root-requires-clause-lent
display_root-requires-clause-lent c = search (lent_known, c.in_ok-judge.ensures)

pub display_root-requires-clause-listable : goal.display_root-requires-clause-listable
display_root-requires-clause-listable c = search (lent_listable, c.in_ok-judge.ensures)

pub returns : goal.returns
returns c = search (print_done, c.in_ok-judge.ensures)

pub returns-in_err-judge : goal.returns-in_err-judge
returns-in_err-judge c = rw (passed _ _ c.from_residual.ensures.1) (print_refused _ _ _ _ _ _ _ c.in_err-judge.ensures)
