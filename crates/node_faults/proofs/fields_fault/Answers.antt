-- `fields_fault` tests the field words and the child word after them.
use Rattle.node_faults.proofs.Bodies.{field_part_length, fields_all}
use Rattle.node_faults.proofs.fields_fault.Goals as goal

pub slice_bounds-fields-end : goal.slice_bounds-fields-end
slice_bounds-fields-end c = search field_part_length

pub returns : goal.returns
returns c = fields_all _ _ _ _ c.first.ensures c.field_count-k.ensures c.fields_zero.ensures c.children_zero.ensures c.children_below.ensures c.names_below.ensures c.names_rise.ensures
