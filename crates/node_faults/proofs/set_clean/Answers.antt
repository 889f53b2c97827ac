-- `set_clean` tests the count, the field words and the child word after them.
use Rattle.node_faults.proofs.Bodies.{field_part_length}
use Rattle.node_faults.proofs.CleanBodies.{clean_not, set_clean}
use mathlib.Core.Path.{ap}
use mathlib.Core.Bool.{not}
use Rattle.node_faults.proofs.set_clean.Goals as goal

pub returns-then-not-count_fits : goal.returns-then-not-count_fits
returns-then-not-count_fits c = search clean_not

pub slice_bounds-fields_clean-end : goal.slice_bounds-fields_clean-end
slice_bounds-fields_clean-end c = search field_part_length

pub returns : goal.returns
returns c = set_clean _ _ _ _ c.count_fits.ensures (ap not c.if-not-count_fits.false) c.field_count-k.ensures c.fields_clean.ensures c.all_below.ensures
