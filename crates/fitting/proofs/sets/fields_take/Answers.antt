use Rattle.fitting.proofs.SetFits.{taking_fails, taking_more, taking_done}
use Rattle.fitting.proofs.sets.fields_take.Goals as goal

pub returns-then-not-field_takes : goal.returns-then-not-field_takes
returns-then-not-field_takes c = search taking_fails

pub loop-word-preserved : goal.loop-word-preserved
loop-word-preserved c = search taking_more

pub returns : goal.returns
returns c = search taking_done
