-- `name_clean` tests the count, the flag and the word as a field.
use native.Mathlib.Omega.{arith}
use Rattle.node_faults.proofs.CleanBodies.{name_clean}
use Rattle.node_faults.proofs.name_clean.Goals as goal

pub returns : goal.returns
returns c = name_clean _ _ _ (omega arith) c.field_optional.ensures c.fields_clean.ensures
