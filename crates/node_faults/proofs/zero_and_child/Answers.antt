use Rattle.node_faults.proofs.Quick.{zero_room, child_room}
use Rattle.node_faults.proofs.zero_and_child.Goals as goal

pub overflow_mul-field_zero : goal.overflow_mul-field_zero
overflow_mul-field_zero c = search zero_room

pub overflow_add-field_zero : goal.overflow_add-field_zero
overflow_add-field_zero c = search child_room
