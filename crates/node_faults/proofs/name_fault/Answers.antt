-- `name_fault` tests the flag, then the word as a set's one field.
use Rattle.node_faults.proofs.Bodies.{name_optional, name_field}
use Rattle.node_faults.proofs.name_fault.Goals as goal

pub returns-then-field_optional : goal.returns-then-field_optional
returns-then-field_optional c = search name_optional

pub returns : goal.returns
returns c = search name_field
