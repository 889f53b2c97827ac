use mathlib.Core.Path.{refl}
use borrow.Author.Rules.{rules}
use Rattle.types.proofs.Refusals.{passed}
use Rattle.node_filter.proofs.Filters.{covers_kept, covers_refused, covers_told}
use Rattle.recursion.proofs.Covering.{covers_stopped, covers_went}
use Rattle.recursion.proofs.Remembering.{ready_small, cached_done, remember_room, remembered}
use Rattle.recursion.proofs.Turns.{turn_start, turn_item, turn_ready, turn_refused, turn_more, turn_done}
use Rattle.set_ops_pass.proofs.Normalizing.{lawful}
use Rattle.set_ops_pass.proofs.Working.{item_falls, ready_range, ready_wide, same_falls, list_ready, other_ready, children_ready, rebuilding, other_refused, other_done}
use Rattle.set_ops_pass.proofs.Flattening.{brought_covers, list_range, flat_start, flat_near, flat_member, flat_falls, flat_ready, flat_brings, flat_refused, flat_more, flat_filled, flat_done}
use mathlib.Core.Path.{ap}
use mathlib.Core.Bool.{not}
use Rattle.set_ops_pass.proofs.+normalizing.Goals as goal

pub flatten_set_op_cached-member_count-total-requires : goal.flatten_set_op_cached-member_count-total-requires
flatten_set_op_cached-member_count-total-requires t c = search list_range

pub flatten_set_op_cached-loop-i-init : goal.flatten_set_op_cached-loop-i-init
flatten_set_op_cached-loop-i-init t c = (search flat_start, search rules)

pub flatten_set_op_cached-member_at-member-requires : goal.flatten_set_op_cached-member_at-member-requires
flatten_set_op_cached-member_at-member-requires t c = search flat_member

pub flatten_set_op_cached-normalize_set_ops_cached-r-requires : goal.flatten_set_op_cached-normalize_set_ops_cached-r-requires
flatten_set_op_cached-normalize_set_ops_cached-r-requires t c = (search flat_falls, (search flat_ready, search rules))

pub flatten_set_op_cached-bring-requires : goal.flatten_set_op_cached-bring-requires
flatten_set_op_cached-bring-requires t c = flat_brings c.loop-i.invariant.0 c.loop-i-test.true c.member_at-member.ensures c.normalize_set_ops_cached-r.ensures.does

pub flatten_set_op_cached-returns-in_err-next-clause-does : goal.flatten_set_op_cached-returns-in_err-next-clause-does
flatten_set_op_cached-returns-in_err-next-clause-does t c = rw (passed _ _ c.from_residual.ensures.1) (flat_refused c.loop-i.invariant.0 c.loop-i-test.true c.member_at-member.ensures c.normalize_set_ops_cached-r.ensures.does c.in_err-next.ensures refl)

pub flatten_set_op_cached-returns-in_err-next-clause-covers_after : goal.flatten_set_op_cached-returns-in_err-next-clause-covers_after
flatten_set_op_cached-returns-in_err-next-clause-covers_after t c = rw (passed _ _ c.from_residual.ensures.1) covers_refused

pub flatten_set_op_cached-loop-i-preserved : goal.flatten_set_op_cached-loop-i-preserved
flatten_set_op_cached-loop-i-preserved t c = (flat_more c.loop-i.invariant.0 c.loop-i-test.true c.member_at-member.ensures c.normalize_set_ops_cached-r.ensures.does c.in_ok-next.ensures refl (search rules) (search rules), brought_covers c.normalize_set_ops_cached-r.ensures.covers_after c.in_ok-next.ensures refl)

pub flatten_set_op_cached-close_list-requires-clause-filled : goal.flatten_set_op_cached-close_list-requires-clause-filled
flatten_set_op_cached-close_list-requires-clause-filled t c = search flat_filled

pub flatten_set_op_cached-close_list-requires-clause-near_lt_nodes : goal.flatten_set_op_cached-close_list-requires-clause-near_lt_nodes
flatten_set_op_cached-close_list-requires-clause-near_lt_nodes t c = search flat_near

pub flatten_set_op_cached-returns-clause-does : goal.flatten_set_op_cached-returns-clause-does
flatten_set_op_cached-returns-clause-does t c = search flat_done

pub normalize_children-all_children-list-requires : goal.normalize_children-all_children-list-requires
normalize_children-all_children-list-requires t c = search ready_range

pub normalize_children-normalize_each-requires : goal.normalize_children-normalize_each-requires
normalize_children-normalize_each-requires t c = (search (same_falls, rules), (search children_ready, search rules))

pub normalize_children-returns-in_err-d-clause-does : goal.normalize_children-returns-in_err-d-clause-does
normalize_children-returns-in_err-d-clause-does t c = rw (passed _ _ c.from_residual.ensures.1) (other_refused c.requires.other_ready c.all_children-list.ensures c.in_err-d.ensures.does_each refl)

pub normalize_children-returns-in_err-d-clause-covers_after : goal.normalize_children-returns-in_err-d-clause-covers_after
normalize_children-returns-in_err-d-clause-covers_after t c = rw (passed _ _ c.from_residual.ensures.1) covers_refused

pub normalize_children-rebuild-requires-clause-rebuilding : goal.normalize_children-rebuild-requires-clause-rebuilding
normalize_children-rebuild-requires-clause-rebuilding t c = rebuilding c.requires.other_ready.ready c.all_children-list.ensures c.in_ok-d.ensures.does_each refl

pub normalize_children-rebuild-requires-clause-covers_lent : goal.normalize_children-rebuild-requires-clause-covers_lent
normalize_children-rebuild-requires-clause-covers_lent t c = c.in_ok-d.ensures.covers_run.is _ refl

pub normalize_children-returns-clause-does : goal.normalize_children-returns-clause-does
normalize_children-returns-clause-does t c = other_done c.requires.other_ready c.all_children-list.ensures c.in_ok-d.ensures.does_each refl c.rebuild.ensures.rebuilds (search rules) (search rules) (search rules) (search rules)

pub normalize_each-loop-i-init : goal.normalize_each-loop-i-init
normalize_each-loop-i-init t c = (search turn_start, search rules)

pub normalize_each-item_at-item-requires : goal.normalize_each-item_at-item-requires
normalize_each-item_at-item-requires t c = search turn_item

pub normalize_each-normalize_set_ops_cached-requires : goal.normalize_each-normalize_set_ops_cached-requires
normalize_each-normalize_set_ops_cached-requires t c = (search item_falls, (search (turn_ready, lawful), search rules))

pub normalize_each-returns-in_err-m-clause-does_each : goal.normalize_each-returns-in_err-m-clause-does_each
normalize_each-returns-in_err-m-clause-does_each t c = rw (passed _ _ c.from_residual.ensures.1) (turn_refused c.loop-i.invariant.0 c.loop-i-test.true c.item_at-item.ensures lawful c.in_err-m.ensures.does refl)

pub normalize_each-returns-in_err-m-clause-covers_run : goal.normalize_each-returns-in_err-m-clause-covers_run
normalize_each-returns-in_err-m-clause-covers_run t c = rw (passed _ _ c.from_residual.ensures.1) covers_stopped

pub normalize_each-loop-i-preserved : goal.normalize_each-loop-i-preserved
normalize_each-loop-i-preserved t c = (turn_more c.loop-i.invariant.0 c.loop-i-test.true c.item_at-item.ensures lawful c.in_ok-m.ensures.does refl (search rules) (search rules), c.in_ok-m.ensures.covers_after.is _ _ refl)

pub normalize_each-returns-clause-does_each : goal.normalize_each-returns-clause-does_each
normalize_each-returns-clause-does_each t c = search turn_done

pub normalize_each-returns-clause-covers_run : goal.normalize_each-returns-clause-covers_run
normalize_each-returns-clause-covers_run t c = search covers_went

pub normalize_set_ops_cached-cached-hit-requires : goal.normalize_set_ops_cached-cached-hit-requires
normalize_set_ops_cached-cached-hit-requires t c = search (ready_small, lawful)

pub normalize_set_ops_cached-returns-then-hit-ne0-clause-does : goal.normalize_set_ops_cached-returns-then-hit-ne0-clause-does
normalize_set_ops_cached-returns-then-hit-ne0-clause-does t c = search (cached_done, lawful)

pub normalize_set_ops_cached-returns-then-hit-ne0-clause-covers_after : goal.normalize_set_ops_cached-returns-then-hit-ne0-clause-covers_after
normalize_set_ops_cached-returns-then-hit-ne0-clause-covers_after t c = search covers_kept

pub normalize_set_ops_cached-normalize_set_ops_uncached-r-requires : goal.normalize_set_ops_cached-normalize_set_ops_uncached-r-requires
normalize_set_ops_cached-normalize_set_ops_uncached-r-requires t c = (search (same_falls, rules), search rules)

pub normalize_set_ops_cached-remember-requires : goal.normalize_set_ops_cached-remember-requires
normalize_set_ops_cached-remember-requires t c = search (remember_room lawful c.requires.ready c.normalize_set_ops_uncached-r.ensures.does)

pub normalize_set_ops_cached-returns-clause-does : goal.normalize_set_ops_cached-returns-clause-does
normalize_set_ops_cached-returns-clause-does t c = search (remembered, lawful)

pub normalize_set_ops_cached-returns-clause-covers_after : goal.normalize_set_ops_cached-returns-clause-covers_after
normalize_set_ops_cached-returns-clause-covers_after t c = search covers_told

pub normalize_set_ops_uncached-kind_at-kind-requires : goal.normalize_set_ops_uncached-kind_at-kind-requires
normalize_set_ops_uncached-kind_at-kind-requires t c = search ready_wide

pub normalize_set_ops_uncached-normalize_children-requires : goal.normalize_set_ops_uncached-normalize_children-requires
normalize_set_ops_uncached-normalize_children-requires t c = (search (same_falls, rules), (other_ready c.requires.ready c.wide.ensures c.kind_at-kind.ensures (ap not c.if-not-is_list.true), search rules))

pub normalize_set_ops_uncached-flatten_set_op_cached-requires : goal.normalize_set_ops_uncached-flatten_set_op_cached-requires
normalize_set_ops_uncached-flatten_set_op_cached-requires t c = (search (same_falls, rules), (search list_ready, search rules))
