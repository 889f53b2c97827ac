-- By the kind of the member.
use Rattle.member_lists.proofs.Splices.{splicing_adds, brings_members, brings_nothing, brings_itself}
use Rattle.member_lists.proofs.BoundKinds.{range_wide}
use Rattle.member_lists.proofs.growing.splice.Goals as goal

pub node_at-requires : goal.node_at-requires
node_at-requires c = search range_wide

pub returns-then-own-kind : goal.returns-then-own-kind
returns-then-own-kind c = search brings_members

pub returns-then-own-neutral : goal.returns-then-own-neutral
returns-then-own-neutral c = search brings_nothing

pub append-requires : goal.append-requires
append-requires c = search splicing_adds

pub returns : goal.returns
returns c = search brings_itself
