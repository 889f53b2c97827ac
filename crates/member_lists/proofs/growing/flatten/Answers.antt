use Rattle.types.proofs.Refusals.{passed}
use Rattle.member_lists.proofs.Splices.{passed_start, passed_next, passed_full, passed_more, passed_done}
use Rattle.member_lists.proofs.growing.flatten.Goals as goal

pub loop-n-init : goal.loop-n-init
loop-n-init c = search passed_start

pub splice-requires : goal.splice-requires
splice-requires c = search passed_next

pub returns-in_err-held : goal.returns-in_err-held
returns-in_err-held c = rw (passed _ _ c.from_residual.ensures.1) (search (passed_full, c.in_err-held.ensures))

pub loop-n-preserved : goal.loop-n-preserved
loop-n-preserved c = search (passed_more, c.in_ok-held.ensures)

pub returns : goal.returns
returns c = search passed_done
