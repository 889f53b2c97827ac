-- A child in the words of the node.
use Rattle.set_ops_pass.proofs.Working.{member_range, member_inside, member_is}
use borrow.Author.Rules.{rules}
use Rattle.set_ops_pass.proofs.member_at.Goals as goal

pub node_at-requires : goal.node_at-requires
node_at-requires c = search member_range

pub offset_bounds-body-i : goal.offset_bounds-body-i
offset_bounds-body-i c = search (member_inside, rules)

pub bounds-body-i : goal.bounds-body-i
bounds-body-i c = search member_inside

pub returns : goal.returns
returns c = search member_is
