use Rattle.fitting.proofs.SetFits.{missing_fails, missing_more, missing_done}
use Rattle.fitting.proofs.sets.none_missing.Goals as goal

pub returns-then-not-field_optional-named_at : goal.returns-then-not-field_optional-named_at
returns-then-not-field_optional-named_at c = search missing_fails

pub loop-field-preserved : goal.loop-field-preserved
loop-field-preserved c = search missing_more

pub returns : goal.returns
returns c = search missing_done
