-- The bound of the other side.
use Rattle.member_lists.proofs.BoundKinds.{deciding_union, deciding_other}
use Rattle.member_lists.proofs.bounds.deciding.Goals as goal

pub returns-then-kind-eq-UNION : goal.returns-then-kind-eq-UNION
returns-then-kind-eq-UNION c = search deciding_union

pub returns : goal.returns
returns c = search deciding_other
