-- A list of the same kind, or any other node.
use Rattle.set_op_lists.proofs.Bringing.{appends_members, appends_itself}
use Rattle.member_lists.proofs.Splices.{splicing_adds}
use Rattle.set_op_lists.proofs.append_brought.Goals as goal

pub returns-then-kind_at-kind : goal.returns-then-kind_at-kind
returns-then-kind_at-kind c = search appends_members

pub append-requires : goal.append-requires
append-requires c = search splicing_adds

pub returns : goal.returns
returns c = search appends_itself
