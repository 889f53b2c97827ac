use Rattle.member_sorting.proofs.Inserting.{going_start, going_next, going_more, going_done}
use Rattle.member_sorting.proofs.sort_members.Goals as goal

pub loop-i-init : goal.loop-i-init
loop-i-init c = search going_start

pub insert_member-requires : goal.insert_member-requires
insert_member-requires c = search going_next

pub loop-i-preserved : goal.loop-i-preserved
loop-i-preserved c = search going_more

pub returns : goal.returns
returns c = search going_done
