-- The list by value.
use Rattle.types.proofs.Refusals.{passed_on}
use Rattle.free_vars.proofs.Replies.{list_given, none_given}
use Rattle.free_vars.proofs.free_type_vars.Goals as goal

pub returns-in_err-count : goal.returns-in_err-count
returns-in_err-count c = passed_on c.from_residual.ensures.1 (none_given c.in_err-count.ensures)

pub returns : goal.returns
returns c = list_given c.in_ok-count.ensures
