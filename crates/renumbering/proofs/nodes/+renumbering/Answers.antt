use mathlib.Core.Path.{refl}
use borrow.Author.Rules.{rules}
use Rattle.types.proofs.Refusals.{passed}
use Rattle.node_filter.proofs.Filters.{covers_kept, covers_refused, covers_told}
use Rattle.recursion.proofs.Remembering.{ready_small, cached_done, remember_room, remembered}
use Rattle.recursion.proofs.Turns.{turn_start, turn_item, turn_falls, turn_ready, turn_refused, turn_more, turn_done}
use Rattle.recursion.proofs.Covering.{covers_stopped, covers_went}
use Rattle.renumbering.proofs.Renumbering.{lawful}
use Rattle.renumbering.proofs.Working.{ready_range, ready_wide, ready_few, same_falls, each_falls, ready_var, var_done, children_ready, rebuilding, other_refused, other_done}
use Rattle.renumbering.proofs.nodes.+renumbering.Goals as goal

pub renumber_each-loop-i-init : goal.renumber_each-loop-i-init
renumber_each-loop-i-init t c = (search turn_start, search rules)

pub renumber_each-item_at-item-requires : goal.renumber_each-item_at-item-requires
renumber_each-item_at-item-requires t c = search turn_item

pub renumber_each-renumber_node-requires : goal.renumber_each-renumber_node-requires
renumber_each-renumber_node-requires t c = (search turn_falls, (search (turn_ready, lawful), search rules))

pub renumber_each-returns-in_err-m-clause-does_each : goal.renumber_each-returns-in_err-m-clause-does_each
renumber_each-returns-in_err-m-clause-does_each t c = rw (passed _ _ c.from_residual.ensures.1) (turn_refused c.loop-i.invariant.0 c.loop-i-test.true c.item_at-item.ensures lawful c.in_err-m.ensures.does refl)

pub renumber_each-returns-in_err-m-clause-covers_run : goal.renumber_each-returns-in_err-m-clause-covers_run
renumber_each-returns-in_err-m-clause-covers_run t c = rw (passed _ _ c.from_residual.ensures.1) covers_stopped

pub renumber_each-loop-i-preserved : goal.renumber_each-loop-i-preserved
renumber_each-loop-i-preserved t c = (turn_more c.loop-i.invariant.0 c.loop-i-test.true c.item_at-item.ensures lawful c.in_ok-m.ensures.does refl (search rules) (search rules), c.in_ok-m.ensures.covers_after.is _ _ refl)

pub renumber_each-returns-clause-does_each : goal.renumber_each-returns-clause-does_each
renumber_each-returns-clause-does_each t c = search turn_done

pub renumber_each-returns-clause-covers_run : goal.renumber_each-returns-clause-covers_run
renumber_each-returns-clause-covers_run t c = search covers_went

pub renumber_node-cached-hit-requires : goal.renumber_node-cached-hit-requires
renumber_node-cached-hit-requires t c = search (ready_small, lawful)

pub renumber_node-returns-then-hit-ne0-clause-does : goal.renumber_node-returns-then-hit-ne0-clause-does
renumber_node-returns-then-hit-ne0-clause-does t c = search (cached_done, lawful)

pub renumber_node-returns-then-hit-ne0-clause-covers_after : goal.renumber_node-returns-then-hit-ne0-clause-covers_after
renumber_node-returns-then-hit-ne0-clause-covers_after t c = search covers_kept

pub renumber_node-renumber_uncached-r-requires : goal.renumber_node-renumber_uncached-r-requires
renumber_node-renumber_uncached-r-requires t c = (search same_falls, search rules)

pub renumber_node-remember-requires : goal.renumber_node-remember-requires
renumber_node-remember-requires t c = search (remember_room lawful c.requires.ready c.renumber_uncached-r.ensures.does)

pub renumber_node-returns-clause-does : goal.renumber_node-returns-clause-does
renumber_node-returns-clause-does t c = search (remembered, lawful)

pub renumber_node-returns-clause-covers_after : goal.renumber_node-returns-clause-covers_after
renumber_node-returns-clause-covers_after t c = covers_told c.renumber_uncached-r.ensures.covers_after c.in-Ok.is

pub renumber_uncached-kind_at-requires : goal.renumber_uncached-kind_at-requires
renumber_uncached-kind_at-requires t c = search ready_wide

pub renumber_uncached-renumber_var-requires-clause-var_at : goal.renumber_uncached-renumber_var-requires-clause-var_at
renumber_uncached-renumber_var-requires-clause-var_at t c = search (ready_var c.requires.ready c.wide.ensures c.kind_at.ensures)

pub renumber_uncached-renumber_var-requires-clause-vars_len_bound : goal.renumber_uncached-renumber_var-requires-clause-vars_len_bound
renumber_uncached-renumber_var-requires-clause-vars_len_bound t c = search (ready_few c.requires.ready)

pub renumber_uncached-returns-then-kind_at-eq-TY_VAR-clause-does : goal.renumber_uncached-returns-then-kind_at-eq-TY_VAR-clause-does
renumber_uncached-returns-then-kind_at-eq-TY_VAR-clause-does t c = search var_done

pub renumber_uncached-all_children-list-requires : goal.renumber_uncached-all_children-list-requires
renumber_uncached-all_children-list-requires t c = search ready_range

pub renumber_uncached-renumber_each-requires : goal.renumber_uncached-renumber_each-requires
renumber_uncached-renumber_each-requires t c = (search each_falls, (search children_ready, search rules))

pub renumber_uncached-returns-in_err-d-clause-does : goal.renumber_uncached-returns-in_err-d-clause-does
renumber_uncached-returns-in_err-d-clause-does t c = rw (passed _ _ c.from_residual.ensures.1) (other_refused c.requires.ready c.wide.ensures c.kind_at.ensures c.all_children-list.ensures c.in_err-d.ensures.does_each refl c.if-kind_at-eq-TY_VAR.false)

pub renumber_uncached-returns-in_err-d-clause-covers_after : goal.renumber_uncached-returns-in_err-d-clause-covers_after
renumber_uncached-returns-in_err-d-clause-covers_after t c = rw (passed _ _ c.from_residual.ensures.1) covers_refused

pub renumber_uncached-rebuild-requires-clause-rebuilding : goal.renumber_uncached-rebuild-requires-clause-rebuilding
renumber_uncached-rebuild-requires-clause-rebuilding t c = rebuilding c.requires.ready c.all_children-list.ensures c.in_ok-d.ensures.does_each refl

pub renumber_uncached-rebuild-requires-clause-covers_lent : goal.renumber_uncached-rebuild-requires-clause-covers_lent
renumber_uncached-rebuild-requires-clause-covers_lent t c = c.in_ok-d.ensures.covers_run.is _ refl

pub renumber_uncached-returns-clause-does : goal.renumber_uncached-returns-clause-does
renumber_uncached-returns-clause-does t c = other_done c.requires.ready c.wide.ensures c.kind_at.ensures c.all_children-list.ensures c.in_ok-d.ensures.does_each refl c.rebuild.ensures.rebuilds c.if-kind_at-eq-TY_VAR.false (search rules) (search rules) (search rules) (search rules)

pub renumber_uncached-returns-clause-covers_after : goal.renumber_uncached-returns-clause-covers_after
renumber_uncached-returns-clause-covers_after t c = c.rebuild.ensures.covers_after
