use mathlib.Core.Path.{refl}
use borrow.Author.Rules.{rules}
use Rattle.types.proofs.Refusals.{passed}
use Rattle.node_filter.proofs.Filters.{covers_kept, covers_refused, covers_told}
use Rattle.recursion.proofs.Remembering.{ready_small, cached_done, remember_room, remembered}
use Rattle.recursion.proofs.Turns.{turn_start, turn_item, turn_falls, turn_ready, turn_refused, turn_more, turn_done}
use Rattle.recursion.proofs.Covering.{covers_stopped, covers_went}
use Rattle.importing.proofs.Caching.{import_lawful}
use Rattle.importing.proofs.Working.{turn_complete, source_range, uncached_falls, each_falls, children_ready, children_complete, import_refused, import_ready, import_done}
use Rattle.importing.proofs.nodes.+importing.Goals as goal

pub import_each-loop-i-init : goal.import_each-loop-i-init
import_each-loop-i-init t c = (search turn_start, search rules, search rules)

pub import_each-item_at-item-requires : goal.import_each-item_at-item-requires
import_each-item_at-item-requires t c = search turn_item

pub import_each-import_node-requires : goal.import_each-import_node-requires
import_each-import_node-requires t c = (search turn_falls, (search (turn_ready, import_lawful), (search turn_complete, search rules)))

pub import_each-returns-in_err-m-clause-does_each : goal.import_each-returns-in_err-m-clause-does_each
import_each-returns-in_err-m-clause-does_each t c = rw (passed _ _ c.from_residual.ensures.1) (turn_refused c.loop-i.invariant.0 c.loop-i-test.true c.item_at-item.ensures import_lawful c.in_err-m.ensures.does refl)

pub import_each-returns-in_err-m-clause-covers_run : goal.import_each-returns-in_err-m-clause-covers_run
import_each-returns-in_err-m-clause-covers_run t c = rw (passed _ _ c.from_residual.ensures.1) covers_stopped

pub import_each-loop-i-preserved : goal.import_each-loop-i-preserved
import_each-loop-i-preserved t c = (turn_more c.loop-i.invariant.0 c.loop-i-test.true c.item_at-item.ensures import_lawful c.in_ok-m.ensures.does refl (search rules) (search rules), c.in_ok-m.ensures.covers_after.is _ _ refl, c.loop-i.invariant.2)

pub import_each-returns-clause-does_each : goal.import_each-returns-clause-does_each
import_each-returns-clause-does_each t c = search turn_done

pub import_each-returns-clause-covers_run : goal.import_each-returns-clause-covers_run
import_each-returns-clause-covers_run t c = search covers_went

pub import_node-cached-hit-requires : goal.import_node-cached-hit-requires
import_node-cached-hit-requires t c = search (ready_small, import_lawful)

pub import_node-returns-then-hit-ne0-clause-does : goal.import_node-returns-then-hit-ne0-clause-does
import_node-returns-then-hit-ne0-clause-does t c = search (cached_done, import_lawful)

pub import_node-returns-then-hit-ne0-clause-covers_after : goal.import_node-returns-then-hit-ne0-clause-covers_after
import_node-returns-then-hit-ne0-clause-covers_after t c = search covers_kept

pub import_node-import_uncached-r-requires : goal.import_node-import_uncached-r-requires
import_node-import_uncached-r-requires t c = (search uncached_falls, (search rules, (search rules, search rules)))

pub import_node-remember-requires : goal.import_node-remember-requires
import_node-remember-requires t c = search (remember_room import_lawful c.requires.ready c.import_uncached-r.ensures.does)

pub import_node-returns-clause-does : goal.import_node-returns-clause-does
import_node-returns-clause-does t c = search (remembered, import_lawful)

pub import_node-returns-clause-covers_after : goal.import_node-returns-clause-covers_after
import_node-returns-clause-covers_after t c = covers_told c.import_uncached-r.ensures.covers_after c.in-Ok.is

pub import_uncached-all_children-list-requires : goal.import_uncached-all_children-list-requires
import_uncached-all_children-list-requires t c = search source_range

pub import_uncached-import_each-requires : goal.import_uncached-import_each-requires
import_uncached-import_each-requires t c = (search each_falls, (search children_ready, (search children_complete, search rules)))

pub import_uncached-returns-in_err-e-clause-does : goal.import_uncached-returns-in_err-e-clause-does
import_uncached-returns-in_err-e-clause-does t c = rw (passed _ _ c.from_residual.ensures.1) (import_refused c.requires.ready c.all_children-list.ensures c.requires.complete c.in_err-e.ensures.does_each refl)

pub import_uncached-returns-in_err-e-clause-covers_after : goal.import_uncached-returns-in_err-e-clause-covers_after
import_uncached-returns-in_err-e-clause-covers_after t c = rw (passed _ _ c.from_residual.ensures.1) covers_refused

pub import_uncached-intern_imported-requires-clause-import_ready : goal.import_uncached-intern_imported-requires-clause-import_ready
import_uncached-intern_imported-requires-clause-import_ready t c = import_ready c.requires.ready c.all_children-list.ensures c.requires.complete c.in_ok-e.ensures.does_each refl

pub import_uncached-intern_imported-requires-clause-complete : goal.import_uncached-intern_imported-requires-clause-complete
import_uncached-intern_imported-requires-clause-complete t c = c.requires.complete

pub import_uncached-intern_imported-requires-clause-covers_lent : goal.import_uncached-intern_imported-requires-clause-covers_lent
import_uncached-intern_imported-requires-clause-covers_lent t c = c.in_ok-e.ensures.covers_run.is _ refl

pub import_uncached-returns-clause-does : goal.import_uncached-returns-clause-does
import_uncached-returns-clause-does t c = import_done c.requires.ready c.all_children-list.ensures c.requires.complete c.in_ok-e.ensures.does_each refl c.intern_imported.ensures.imports (search rules) (search rules) (search rules) (search rules)

pub import_uncached-returns-clause-covers_after : goal.import_uncached-returns-clause-covers_after
import_uncached-returns-clause-covers_after t c = c.intern_imported.ensures.covers_after
