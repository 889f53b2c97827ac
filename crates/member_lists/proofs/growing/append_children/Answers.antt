use Rattle.types.proofs.Refusals.{passed}
use Rattle.member_lists.proofs.Copying.{appended_start, appended_next, appended_full, appended_more, appended_done}
use Rattle.member_lists.proofs.growing.append_children.Goals as goal

pub loop-word-init : goal.loop-word-init
loop-word-init c = search appended_start

pub append-requires : goal.append-requires
append-requires c = search appended_next

pub returns-in_err-held : goal.returns-in_err-held
returns-in_err-held c = rw (passed _ _ c.from_residual.ensures.1) (search (appended_full, c.in_err-held.ensures))

pub loop-word-preserved : goal.loop-word-preserved
loop-word-preserved c = search (appended_more, c.in_ok-held.ensures)

pub returns : goal.returns
returns c = search appended_done
