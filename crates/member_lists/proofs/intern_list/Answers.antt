-- The head counts the members.
use Rattle.member_lists.proofs.ListNodes.{head_fits, list_cut, list_fresh, list_interned}
use Rattle.member_lists.proofs.intern_list.Goals as goal

pub new-head-requires : goal.new-head-requires
new-head-requires c = search head_fits

pub slice_bounds-intern_near-end : goal.slice_bounds-intern_near-end
slice_bounds-intern_near-end c = search list_cut

pub intern_near-requires-clause-fresh : goal.intern_near-requires-clause-fresh
intern_near-requires-clause-fresh c = search list_fresh

pub intern_near-requires-clause-near_lt_nodes : goal.intern_near-requires-clause-near_lt_nodes
intern_near-requires-clause-near_lt_nodes c = c.requires.near_lt_nodes

pub intern_near-requires-clause-covers_lent : goal.intern_near-requires-clause-covers_lent
intern_near-requires-clause-covers_lent c = c.requires.covers_lent

pub returns-clause-interns_list : goal.returns-clause-interns_list
returns-clause-interns_list c = search list_interned
