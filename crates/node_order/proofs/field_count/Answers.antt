-- `field_count` is the count that `field_count` gives, and no more than there are words.
use Rattle.node_order.proofs.FieldCounts.{count_named, count_none, count_set}
use Rattle.node_order.proofs.field_count.Goals as goal

pub returns-in-9 : goal.returns-in-9
returns-in-9 c = search count_named

pub returns-in-6 : goal.returns-in-6
returns-in-6 c = search count_set

pub returns-in_default : goal.returns-in_default
returns-in_default c = search count_none
