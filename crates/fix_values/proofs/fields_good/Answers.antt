use Rattle.fix_values.proofs.Passing.{passed_bad, passed_more, passed_done, name_next}
use Rattle.fix_values.proofs.fields_good.Goals as goal

pub returns-then-not-field_good : goal.returns-then-not-field_good
returns-then-not-field_good c = search passed_bad

pub overflow_add-low : goal.overflow_add-low
overflow_add-low c = search name_next

pub loop-word-preserved : goal.loop-word-preserved
loop-word-preserved c = search passed_more

pub returns : goal.returns
returns c = search passed_done
