use mathlib.Core.Path.{refl}
use borrow.Author.Rules.{rules}
use Rattle.types.proofs.Refusals.{passed}
use Rattle.recursion.proofs.Remembering.{ready_small, cached_done, remember_room, remembered}
use Rattle.recursion.proofs.Turns.{turn_start, turn_item, turn_falls, turn_ready, turn_refused, turn_more, turn_done}
use Rattle.copying.proofs.Caching.{copy_lawful}
use Rattle.copying.proofs.Nodes.{source_range, uncached_falls, each_falls, children_ready, copy_refused, copy_ready}
use Rattle.copying.proofs.CachedCopies.{cached_same, cached_refused, once_refused, run_refused, run_same, cached_once, copy_new, copy_both}
use Rattle.copying.proofs.+compacting.Goals as goal

pub compact_each-loop-i-init : goal.compact_each-loop-i-init
compact_each-loop-i-init t c = (search turn_start, search rules)

pub compact_each-item_at-item-requires : goal.compact_each-item_at-item-requires
compact_each-item_at-item-requires t c = search turn_item

pub compact_each-compact_inner-requires : goal.compact_each-compact_inner-requires
compact_each-compact_inner-requires t c = (search turn_falls, (search (turn_ready, copy_lawful), search rules))

pub compact_each-returns-in_err-m-clause-does_each : goal.compact_each-returns-in_err-m-clause-does_each
compact_each-returns-in_err-m-clause-does_each t c = rw (passed _ _ c.from_residual.ensures.1) (turn_refused c.loop-i.invariant.0 c.loop-i-test.true c.item_at-item.ensures copy_lawful c.in_err-m.ensures.does refl)

pub compact_each-returns-in_err-m-clause-cached_run : goal.compact_each-returns-in_err-m-clause-cached_run
compact_each-returns-in_err-m-clause-cached_run t c = rw (passed _ _ c.from_residual.ensures.1) run_refused

pub compact_each-loop-i-preserved : goal.compact_each-loop-i-preserved
compact_each-loop-i-preserved t c = (turn_more c.loop-i.invariant.0 c.loop-i-test.true c.item_at-item.ensures copy_lawful c.in_ok-m.ensures.does refl (search rules) (search rules), c.in_ok-m.ensures.cached_after.is _ _ refl)

pub compact_each-returns-clause-does_each : goal.compact_each-returns-clause-does_each
compact_each-returns-clause-does_each t c = search turn_done

pub compact_each-returns-clause-cached_run : goal.compact_each-returns-clause-cached_run
compact_each-returns-clause-cached_run t c = search run_same

pub compact_inner-cached-hit-requires : goal.compact_inner-cached-hit-requires
compact_inner-cached-hit-requires t c = search (ready_small, copy_lawful)

pub compact_inner-returns-then-hit-ne0-clause-does : goal.compact_inner-returns-then-hit-ne0-clause-does
compact_inner-returns-then-hit-ne0-clause-does t c = search (cached_done, copy_lawful)

pub compact_inner-returns-then-hit-ne0-clause-cached_after : goal.compact_inner-returns-then-hit-ne0-clause-cached_after
compact_inner-returns-then-hit-ne0-clause-cached_after t c = search cached_same

pub compact_inner-compact_inner_uncached-r-requires : goal.compact_inner-compact_inner_uncached-r-requires
compact_inner-compact_inner_uncached-r-requires t c = (search uncached_falls, (search rules, (search rules, search rules)))

pub compact_inner-returns-in_default-clause-cached_after : goal.compact_inner-returns-in_default-clause-cached_after
compact_inner-returns-in_default-clause-cached_after t c = cached_refused c.in_default.is

pub compact_inner-remember-requires : goal.compact_inner-remember-requires
compact_inner-remember-requires t c = search (remember_room copy_lawful c.requires.ready c.compact_inner_uncached-r.ensures.does)

pub compact_inner-returns-clause-does : goal.compact_inner-returns-clause-does
compact_inner-returns-clause-does t c = search (remembered, copy_lawful)

pub compact_inner-returns-clause-cached_after : goal.compact_inner-returns-clause-cached_after
compact_inner-returns-clause-cached_after t c = cached_once c.compact_inner_uncached-r.ensures.cached_once c.in-Ok.is c.remember.ensures

pub compact_inner_uncached-all_children-list-requires : goal.compact_inner_uncached-all_children-list-requires
compact_inner_uncached-all_children-list-requires t c = search source_range

pub compact_inner_uncached-compact_each-requires : goal.compact_inner_uncached-compact_each-requires
compact_inner_uncached-compact_each-requires t c = (search each_falls, (search children_ready, search rules))

pub compact_inner_uncached-returns-in_err-e-clause-does : goal.compact_inner_uncached-returns-in_err-e-clause-does
compact_inner_uncached-returns-in_err-e-clause-does t c = rw (passed _ _ c.from_residual.ensures.1) (copy_refused c.requires.ready c.all_children-list.ensures c.in_err-e.ensures.does_each refl)

pub compact_inner_uncached-returns-in_err-e-clause-cached_once : goal.compact_inner_uncached-returns-in_err-e-clause-cached_once
compact_inner_uncached-returns-in_err-e-clause-cached_once t c = rw (passed _ _ c.from_residual.ensures.1) once_refused

pub compact_inner_uncached-intern_copy-requires-clause-copy_ready : goal.compact_inner_uncached-intern_copy-requires-clause-copy_ready
compact_inner_uncached-intern_copy-requires-clause-copy_ready t c = copy_ready c.requires.ready c.all_children-list.ensures c.in_ok-e.ensures.does_each refl

pub compact_inner_uncached-intern_copy-requires-clause-copy_new : goal.compact_inner_uncached-intern_copy-requires-clause-copy_new
compact_inner_uncached-intern_copy-requires-clause-copy_new t c = copy_new c.requires.ready c.all_children-list.ensures c.in_ok-e.ensures.does_each refl c.requires.all_cached c.requires.n_value

pub compact_inner_uncached-returns-clause-does : goal.compact_inner_uncached-returns-clause-does
compact_inner_uncached-returns-clause-does t c = (copy_both c.requires.ready c.all_children-list.ensures c.in_ok-e.ensures.does_each refl (c.in_ok-e.ensures.cached_run.is _ refl) c.intern_copy.ensures (search rules) (search rules) (search rules) (search rules)).0

pub compact_inner_uncached-returns-clause-cached_once : goal.compact_inner_uncached-returns-clause-cached_once
compact_inner_uncached-returns-clause-cached_once t c = (copy_both c.requires.ready c.all_children-list.ensures c.in_ok-e.ensures.does_each refl (c.in_ok-e.ensures.cached_run.is _ refl) c.intern_copy.ensures (search rules) (search rules) (search rules) (search rules)).1
