-- The bound of its own side.
use Rattle.member_lists.proofs.BoundKinds.{neutral_union, neutral_other}
use Rattle.member_lists.proofs.bounds.neutral.Goals as goal

pub returns-then-kind-eq-UNION : goal.returns-then-kind-eq-UNION
returns-then-kind-eq-UNION c = search neutral_union

pub returns : goal.returns
returns c = search neutral_other
