use Rattle.fitting.proofs.Taking.{taking_start, taking_value, taking_more}
use Rattle.fitting.proofs.taken.taken_row.Goals as goal

pub loop-v-init : goal.loop-v-init
loop-v-init c = search taking_start

pub takes-taken-requires-clause-value_in : goal.takes-taken-requires-clause-value_in
takes-taken-requires-clause-value_in c = search taking_value

pub loop-v-preserved : goal.loop-v-preserved
loop-v-preserved c = search taking_more
