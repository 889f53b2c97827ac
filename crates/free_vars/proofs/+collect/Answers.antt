use Rattle.free_vars.proofs.Collections.{collect_small, collected, collect_head, var_room, var_collected, turn_start, turn_row, turn_falls, turn_collecting, turn_more, turn_done}
use borrow.Author.Rules.{rules}
use Rattle.free_vars.proofs.+collect.Goals as goal

pub test-requires : goal.test-requires
test-requires t c = search collect_small

pub returns-then-test : goal.returns-then-test
returns-then-test t c = search collected

pub bounds-node-0 : goal.bounds-node-0
bounds-node-0 t c = search collect_head

pub slice_bounds-add_var-count : goal.slice_bounds-add_var-count
slice_bounds-add_var-count t c = search (collect_head, rules)

pub slice_bounds-add_var-start : goal.slice_bounds-add_var-start
slice_bounds-add_var-start t c = search (collect_head, rules)

pub add_var-requires : goal.add_var-requires
add_var-requires t c = search var_room

pub returns-then-kind-eq-TY_VAR : goal.returns-then-kind-eq-TY_VAR
returns-then-kind-eq-TY_VAR t c = search var_collected

pub loop-word-init : goal.loop-word-init
loop-word-init t c = search turn_start

pub collect-total-requires : goal.collect-total-requires
collect-total-requires t c = (search turn_falls, search turn_collecting)

pub loop-word-preserved : goal.loop-word-preserved
loop-word-preserved t c = turn_more c.collect-total.ensures c.child.ensures (search rules) (search rules)

pub put-requires : goal.put-requires
put-requires t c = search turn_row

pub returns : goal.returns
returns t c = search turn_done
