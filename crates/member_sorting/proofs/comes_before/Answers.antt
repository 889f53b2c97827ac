-- `is_lt` of the order.
use Rattle.member_sorting.proofs.Placing.{told}
use Rattle.member_sorting.proofs.comes_before.Goals as goal

pub returns : goal.returns
returns c = search told
