-- By the kind of the node, and of the value where that decides.
use Rattle.types.proofs.Lists.{body_lent}
use Rattle.fitting.proofs.Held.{code_there, child_there, value_there, code_takes, list_refuses, set_refuses, list_asks, list_tells, sets_asked, set_tells}
use Rattle.fitting.proofs.taken.takes.Goals as goal

pub bounds-node-1 : goal.bounds-node-1
bounds-node-1 c = search code_there

pub returns-then-kind-eq-PRIMITIVE : goal.returns-then-kind-eq-PRIMITIVE
returns-then-kind-eq-PRIMITIVE c = search code_takes

pub returns-then-of-ne-LIST : goal.returns-then-of-ne-LIST
returns-then-of-ne-LIST c = search list_refuses

pub bounds-node-1-then-kind-eq-LIST : goal.bounds-node-1-then-kind-eq-LIST
bounds-node-1-then-kind-eq-LIST c = search child_there

pub slice_bounds-list_takes-count : goal.slice_bounds-list_takes-count
slice_bounds-list_takes-count c = search value_there

pub slice_bounds-list_takes-start : goal.slice_bounds-list_takes-start
slice_bounds-list_takes-start c = search value_there

pub list_takes-requires : goal.list_takes-requires
list_takes-requires c = search (list_asks, body_lent)

pub returns-then-kind-eq-LIST : goal.returns-then-kind-eq-LIST
returns-then-kind-eq-LIST c = search (list_tells, body_lent)

pub returns-then-of-ne-SET : goal.returns-then-of-ne-SET
returns-then-of-ne-SET c = search set_refuses

pub slice_bounds-attr_set_takes-count : goal.slice_bounds-attr_set_takes-count
slice_bounds-attr_set_takes-count c = search value_there

pub slice_bounds-attr_set_takes-start : goal.slice_bounds-attr_set_takes-start
slice_bounds-attr_set_takes-start c = search value_there

pub attr_set_takes-requires : goal.attr_set_takes-requires
attr_set_takes-requires c = search (sets_asked, body_lent)

pub returns : goal.returns
returns c = search (set_tells, body_lent)
