use mathlib.Core.Path.{refl}
use borrow.Author.Rules.{rules}
use Rattle.types.proofs.Refusals.{passed}
use Rattle.pass.proofs.Remembering.{ready_small, same_falls, cached_done, remember_room, remembered}
use Rattle.pass.proofs.Turns.{turn_start, turn_item, turn_falls, turn_ready, turn_refused, turn_more, turn_done}
use Rattle.pass.proofs.Others.{ready_range, ready_wide, each_falls, first_below, children_ready}
use Rattle.pass.proofs.Gathering.{first_falls, first_ready, first_done, node_refused, node_rebuilding, node_rebuilt, node_closing, node_near, node_closed, node_ready, node_list, node_emptied}
use Rattle.node_filter.proofs.Filters.{covers_kept, covers_refused, covers_told}
use Rattle.recursion.proofs.Covering.{covers_stopped, covers_went}
use mathlib.Core.Path.{ap}
use mathlib.Core.Bool.{not}
use Rattle.pass.proofs.apply.+applying.Goals as goal

pub apply_each-loop-i-init : goal.apply_each-loop-i-init
apply_each-loop-i-init t c = (search turn_start, search rules)

pub apply_each-item_at-item-requires : goal.apply_each-item_at-item-requires
apply_each-item_at-item-requires t c = search turn_item

pub apply_each-apply_simplification-requires : goal.apply_each-apply_simplification-requires
apply_each-apply_simplification-requires t c = (search turn_falls, (search turn_ready, search rules))

pub apply_each-returns-in_err-m-clause-applies_each : goal.apply_each-returns-in_err-m-clause-applies_each
apply_each-returns-in_err-m-clause-applies_each t c = rw (passed _ _ c.from_residual.ensures.1) (turn_refused c.loop-i.invariant.0 c.loop-i-test.true c.item_at-item.ensures c.in_err-m.ensures.applies refl)

pub apply_each-returns-in_err-m-clause-covers_run : goal.apply_each-returns-in_err-m-clause-covers_run
apply_each-returns-in_err-m-clause-covers_run t c = rw (passed _ _ c.from_residual.ensures.1) covers_stopped

pub apply_each-loop-i-preserved : goal.apply_each-loop-i-preserved
apply_each-loop-i-preserved t c = (turn_more c.loop-i.invariant.0 c.loop-i-test.true c.item_at-item.ensures c.in_ok-m.ensures.applies refl (search rules) (search rules), c.in_ok-m.ensures.covers_after.is _ _ refl)

pub apply_each-returns-clause-applies_each : goal.apply_each-returns-clause-applies_each
apply_each-returns-clause-applies_each t c = search turn_done

pub apply_each-returns-clause-covers_run : goal.apply_each-returns-clause-covers_run
apply_each-returns-clause-covers_run t c = search covers_went

pub apply_first-apply_simplification-requires : goal.apply_first-apply_simplification-requires
apply_first-apply_simplification-requires t c = (first_falls c.requires.ready c.requires.list_at c.first_member-first.ensures c.decreases, (first_ready c.requires.ready c.requires.list_at c.first_member-first.ensures, search rules))

pub apply_first-returns-clause-applies_first : goal.apply_first-returns-clause-applies_first
apply_first-returns-clause-applies_first t c = first_done c.requires.ready c.requires.list_at c.first_member-first.ensures c.apply_simplification.ensures.applies

pub apply_first-returns-clause-covers_after : goal.apply_first-returns-clause-covers_after
apply_first-returns-clause-covers_after t c = c.apply_simplification.ensures.covers_after

pub apply_simplification-cached-hit-requires : goal.apply_simplification-cached-hit-requires
apply_simplification-cached-hit-requires t c = search ready_small

pub apply_simplification-returns-then-hit-ne0-clause-applies : goal.apply_simplification-returns-then-hit-ne0-clause-applies
apply_simplification-returns-then-hit-ne0-clause-applies t c = search cached_done

pub apply_simplification-returns-then-hit-ne0-clause-covers_after : goal.apply_simplification-returns-then-hit-ne0-clause-covers_after
apply_simplification-returns-then-hit-ne0-clause-covers_after t c = search covers_kept

pub apply_simplification-apply_simplification_uncached-r-requires : goal.apply_simplification-apply_simplification_uncached-r-requires
apply_simplification-apply_simplification_uncached-r-requires t c = (search same_falls, (search rules, search rules))

pub apply_simplification-remember-requires : goal.apply_simplification-remember-requires
apply_simplification-remember-requires t c = remember_room c.requires.ready c.apply_simplification_uncached-r.ensures.applies c.in-Ok.is

pub apply_simplification-returns-clause-applies : goal.apply_simplification-returns-clause-applies
apply_simplification-returns-clause-applies t c = remembered c.requires.ready c.apply_simplification_uncached-r.ensures.applies c.in-Ok.is (search rules) (search rules) c.remember.ensures

pub apply_simplification-returns-clause-covers_after : goal.apply_simplification-returns-clause-covers_after
apply_simplification-returns-clause-covers_after t c = covers_told c.apply_simplification_uncached-r.ensures.covers_after c.in-Ok.is

pub apply_simplification_uncached-kind_at-kind-requires : goal.apply_simplification_uncached-kind_at-kind-requires
apply_simplification_uncached-kind_at-kind-requires t c = search ready_wide

pub apply_simplification_uncached-remaining-count-requires-clause-in_range : goal.apply_simplification_uncached-remaining-count-requires-clause-in_range
apply_simplification_uncached-remaining-count-requires-clause-in_range t c = search ready_range

pub apply_simplification_uncached-apply_each-requires : goal.apply_simplification_uncached-apply_each-requires
apply_simplification_uncached-apply_each-requires t c = (search each_falls, (children_ready c.requires.ready c.remaining-count.ensures, search rules))

pub apply_simplification_uncached-returns-in_err-d-clause-applies : goal.apply_simplification_uncached-returns-in_err-d-clause-applies
apply_simplification_uncached-returns-in_err-d-clause-applies t c = rw (passed _ _ c.from_residual.ensures.1) (node_refused c.requires.ready c.wide.ensures c.kind_at-kind.ensures _ c.remaining-count.ensures c.in_err-d.ensures.applies_each refl)

pub apply_simplification_uncached-returns-in_err-d-clause-covers_after : goal.apply_simplification_uncached-returns-in_err-d-clause-covers_after
apply_simplification_uncached-returns-in_err-d-clause-covers_after t c = rw (passed _ _ c.from_residual.ensures.1) covers_refused

pub apply_simplification_uncached-rebuild-requires-clause-rebuilding : goal.apply_simplification_uncached-rebuild-requires-clause-rebuilding
apply_simplification_uncached-rebuild-requires-clause-rebuilding t c = node_rebuilding c.requires.ready c.wide.ensures c.kind_at-kind.ensures _ c.remaining-count.ensures c.in_ok-d.ensures.applies_each refl (ap not c.if-not-is_list.true)

pub apply_simplification_uncached-rebuild-requires-clause-covers_lent : goal.apply_simplification_uncached-rebuild-requires-clause-covers_lent
apply_simplification_uncached-rebuild-requires-clause-covers_lent t c = c.in_ok-d.ensures.covers_run.is _ refl

pub apply_simplification_uncached-returns-then-not-is_list-clause-applies : goal.apply_simplification_uncached-returns-then-not-is_list-clause-applies
apply_simplification_uncached-returns-then-not-is_list-clause-applies t c = node_rebuilt c.requires.ready c.wide.ensures c.kind_at-kind.ensures _ c.remaining-count.ensures c.in_ok-d.ensures.applies_each refl (ap not c.if-not-is_list.true) c.rebuild.ensures.rebuilds (search rules) (search rules) (search rules) (search rules)

pub apply_simplification_uncached-returns-then-not-is_list-clause-covers_after : goal.apply_simplification_uncached-returns-then-not-is_list-clause-covers_after
apply_simplification_uncached-returns-then-not-is_list-clause-covers_after t c = c.rebuild.ensures.covers_after

pub apply_simplification_uncached-close_list-closed-requires-clause-closing : goal.apply_simplification_uncached-close_list-closed-requires-clause-closing
apply_simplification_uncached-close_list-closed-requires-clause-closing t c = node_closing c.requires.ready c.wide.ensures c.kind_at-kind.ensures _ c.remaining-count.ensures c.in_ok-d.ensures.applies_each refl (ap not c.if-not-is_list.false)

pub apply_simplification_uncached-close_list-closed-requires-clause-near_lt_nodes : goal.apply_simplification_uncached-close_list-closed-requires-clause-near_lt_nodes
apply_simplification_uncached-close_list-closed-requires-clause-near_lt_nodes t c = node_near c.requires.ready c.wide.ensures c.kind_at-kind.ensures _ c.remaining-count.ensures c.in_ok-d.ensures.applies_each refl (ap not c.if-not-is_list.false)

pub apply_simplification_uncached-close_list-closed-requires-clause-covers_lent : goal.apply_simplification_uncached-close_list-closed-requires-clause-covers_lent
apply_simplification_uncached-close_list-closed-requires-clause-covers_lent t c = c.in_ok-d.ensures.covers_run.is _ refl

pub apply_simplification_uncached-apply_first-requires : goal.apply_simplification_uncached-apply_first-requires
apply_simplification_uncached-apply_first-requires t c = (first_below c.requires.ready c.decreases, (node_ready c.requires.ready c.wide.ensures c.kind_at-kind.ensures _ c.remaining-count.ensures c.in_ok-d.ensures.applies_each refl (ap not c.if-not-is_list.false) c.close_list-closed.ensures.closes c.in_default.is, (node_list c.requires.ready c.wide.ensures c.kind_at-kind.ensures _ c.remaining-count.ensures c.in_ok-d.ensures.applies_each refl (ap not c.if-not-is_list.false) c.close_list-closed.ensures.closes c.in_default.is, c.close_list-closed.ensures.covers_closed.empty c.in_default.is)))

pub apply_simplification_uncached-returns-in_default-clause-applies : goal.apply_simplification_uncached-returns-in_default-clause-applies
apply_simplification_uncached-returns-in_default-clause-applies t c = node_emptied c.requires.ready c.wide.ensures c.kind_at-kind.ensures _ c.remaining-count.ensures c.in_ok-d.ensures.applies_each refl (ap not c.if-not-is_list.false) c.close_list-closed.ensures.closes c.in_default.is c.apply_first.ensures.applies_first c.apply_each.auto.words c.apply_each.auto.starts

pub apply_simplification_uncached-returns-in_default-clause-covers_after : goal.apply_simplification_uncached-returns-in_default-clause-covers_after
apply_simplification_uncached-returns-in_default-clause-covers_after t c = c.apply_first.ensures.covers_after

pub apply_simplification_uncached-returns-clause-applies : goal.apply_simplification_uncached-returns-clause-applies
apply_simplification_uncached-returns-clause-applies t c = node_closed c.requires.ready c.wide.ensures c.kind_at-kind.ensures _ c.remaining-count.ensures c.in_ok-d.ensures.applies_each refl (ap not c.if-not-is_list.false) c.close_list-closed.ensures.closes c.in-Some.is (search rules) (search rules) (search rules) (search rules)

pub apply_simplification_uncached-returns-clause-covers_after : goal.apply_simplification_uncached-returns-clause-covers_after
apply_simplification_uncached-returns-clause-covers_after t c = c.close_list-closed.ensures.covers_closed.after _ c.in-Some.is
