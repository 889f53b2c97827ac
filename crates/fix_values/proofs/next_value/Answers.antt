-- A value that is cut short is none.
use Rattle.fix_values.proofs.Checking.{count_next, next_cut, next_good}
use Rattle.fix_values.proofs.next_value.Goals as goal

pub overflow_add-len : goal.overflow_add-len
overflow_add-len c = search count_next

pub returns-then-fix-at : goal.returns-then-fix-at
returns-then-fix-at c = search next_cut

pub returns : goal.returns
returns c = search next_good
