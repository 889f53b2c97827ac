-- The head is tested, then the words after it.
use Rattle.fix_values.proofs.Passing.{value_empty, value_head, value_body}
use Rattle.fix_values.proofs.value_good.Goals as goal

pub returns-then-value-eq0 : goal.returns-then-value-eq0
returns-then-value-eq0 c = search value_empty

pub returns-then-not-zeros-count : goal.returns-then-not-zeros-count
returns-then-not-zeros-count c = search value_head

pub returns : goal.returns
returns c = search value_body
