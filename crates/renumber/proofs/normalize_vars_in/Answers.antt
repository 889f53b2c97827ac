-- The list has the variables of the type, the cache is empty, and the filter has all nodes.
use Rattle.renumber.proofs.Calls.{vars_none, vars_room, vars_counted, vars_ready, vars_done}
use Rattle.renumber.proofs.normalize_vars_in.Goals as goal

pub returns-then-count-eq0 : goal.returns-then-count-eq0
returns-then-count-eq0 c = search vars_none

pub slice_bounds-vars-end : goal.slice_bounds-vars-end
slice_bounds-vars-end c = search vars_room

pub slice_bounds-renumber_node-end : goal.slice_bounds-renumber_node-end
slice_bounds-renumber_node-end c = search vars_counted

pub renumber_node-requires-clause-ready : goal.renumber_node-requires-clause-ready
renumber_node-requires-clause-ready c = search vars_ready

pub renumber_node-requires-clause-covers_lent : goal.renumber_node-requires-clause-covers_lent
renumber_node-requires-clause-covers_lent c = c.set_all_bits.ensures

pub returns : goal.returns
returns c = search vars_done
