-- The place in the list is the new number.
use Rattle.renumbering.proofs.VarNodes.{var_wide, var_fresh, place_fits, var_renumbered}
use Rattle.renumbering.proofs.vars.renumber_var.Goals as goal

pub var_at-v-requires : goal.var_at-v-requires
var_at-v-requires c = search var_wide

pub overflow_cast-place : goal.overflow_cast-place
overflow_cast-place c = search place_fits

pub intern_near-requires-clause-fresh : goal.intern_near-requires-clause-fresh
intern_near-requires-clause-fresh c = search var_fresh

pub returns-clause-renumbers_var : goal.returns-clause-renumbers_var
returns-clause-renumbers_var c = search var_renumbered
