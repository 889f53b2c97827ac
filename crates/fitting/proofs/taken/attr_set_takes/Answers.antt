-- The last word of the body is the dynamic type, if there is one; the others are the fields.
use Rattle.types.proofs.Lists.{body_lent}
use Rattle.fitting.proofs.Held.{set_some, open_asks, open_takes, last_there, last_inside, type_asks, type_takes}
use Rattle.fitting.proofs.taken.attr_set_takes.Goals as goal

pub bounds-node-0 : goal.bounds-node-0
bounds-node-0 c = search set_some

pub slice_bounds-body-count : goal.slice_bounds-body-count
slice_bounds-body-count c = search set_some

pub slice_bounds-body-start : goal.slice_bounds-body-start
slice_bounds-body-start c = search set_some

pub set_takes-requires : goal.set_takes-requires
set_takes-requires c = search (open_asks, body_lent)

pub returns-then-not-dynamic : goal.returns-then-not-dynamic
returns-then-not-dynamic c = search (open_takes, body_lent)

pub overflow_sub-last : goal.overflow_sub-last
overflow_sub-last c = search (last_there, body_lent)

pub bounds-body-last : goal.bounds-body-last
bounds-body-last c = search (last_inside, body_lent)

pub set_takes-requires-2 : goal.set_takes-requires-2
set_takes-requires-2 c = search (type_asks, body_lent)

pub returns : goal.returns
returns c = search (type_takes, body_lent)
