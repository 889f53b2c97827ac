-- No partner, other data, or the pairs of children.
use Rattle.equal.proofs.Visits.{visit_small, visit_right, visit_headed, visit_unlike, visit_level, visit_paired}
use Rattle.equal.proofs.pairs.visit.Goals as goal

pub partner_of-there-requires : goal.partner_of-there-requires
partner_of-there-requires c = search visit_small

pub node_at-b-requires : goal.node_at-b-requires
node_at-b-requires c = search visit_right

pub same_data-requires-clause-a_nonzero : goal.same_data-requires-clause-a_nonzero
same_data-requires-clause-a_nonzero c = search visit_headed

pub returns-then-not-same_data : goal.returns-then-not-same_data
returns-then-not-same_data c = search visit_unlike

pub pair_children-requires : goal.pair_children-requires
pair_children-requires c = search visit_level

pub returns : goal.returns
returns c = search visit_paired
