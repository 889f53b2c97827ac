use Rattle.node_faults.proofs.Quick.{name_room, fields_start, fields_more, fields_done}
use Rattle.node_faults.proofs.fields_clean.Goals as goal

pub loop-word-init : goal.loop-word-init
loop-word-init c = search fields_start

pub overflow_add-low : goal.overflow_add-low
overflow_add-low c = search name_room

pub loop-word-preserved : goal.loop-word-preserved
loop-word-preserved c = search fields_more

pub returns : goal.returns
returns c = search fields_done
