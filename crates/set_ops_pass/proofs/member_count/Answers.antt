-- The children in the words of the node.
use Rattle.set_ops_pass.proofs.Working.{range_wide, members_counted}
use Rattle.set_ops_pass.proofs.member_count.Goals as goal

pub node_at-requires : goal.node_at-requires
node_at-requires c = search range_wide

pub returns : goal.returns
returns c = search members_counted
