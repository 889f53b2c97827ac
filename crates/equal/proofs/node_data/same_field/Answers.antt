-- The marks, then what the map says of the names, if it reaches so far.
use Rattle.equal.proofs.Fields.{marks_differ, name_unmapped, names_told, name_next}
use Rattle.equal.proofs.node_data.same_field.Goals as goal

pub returns-then-field_optional : goal.returns-then-field_optional
returns-then-field_optional c = search marks_differ

pub returns-then-name-ge4096 : goal.returns-then-name-ge4096
returns-then-name-ge4096 c = search name_unmapped

pub overflow_add-result : goal.overflow_add-result
overflow_add-result c = search name_next

pub returns : goal.returns
returns c = search names_told
