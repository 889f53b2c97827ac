-- The kind by name.
use Rattle.set_op_lists.proofs.Closing.{as_union, as_intersection, closed_union, closed_intersection}
use Rattle.set_op_lists.proofs.close_list.Goals as goal

pub close_sorted-requires-clause-filled : goal.close_sorted-requires-clause-filled
close_sorted-requires-clause-filled c = search as_union

pub returns-then-kind-eq-UNION-clause-stands_for : goal.returns-then-kind-eq-UNION-clause-stands_for
returns-then-kind-eq-UNION-clause-stands_for c = search closed_union

pub close_sorted-requires-2-clause-filled : goal.close_sorted-requires-2-clause-filled
close_sorted-requires-2-clause-filled c = search as_intersection

pub returns-clause-stands_for : goal.returns-clause-stands_for
returns-clause-stands_for c = search closed_intersection
