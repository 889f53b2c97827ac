-- `Neg` is what its one child is, and any other member what it is itself.
use Rattle.rebuilding.proofs.Dropping.{neg_parent, negated_here, negated_decides, itself_decides}
use Rattle.rebuilding.proofs.children.is_removable_var_member.Goals as goal

pub first_child-negated-requires : goal.first_child-negated-requires
first_child-negated-requires c = search neg_parent

pub is_removable_var-requires : goal.is_removable_var-requires
is_removable_var-requires c = search negated_here

pub returns-then-kind_at-eq-NEG : goal.returns-then-kind_at-eq-NEG
returns-then-kind_at-eq-NEG c = search negated_decides

pub returns : goal.returns
returns c = search itself_decides
