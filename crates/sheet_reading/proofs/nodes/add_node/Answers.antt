-- A fault is the answer; words without one are a node's, and a number below the count is that of a repeated node.
use mathlib.Core.Path.{refl}
use borrow.Author.Rules.{rules}
use Rattle.types.proofs.Refusals.{passed}
use Rattle.node_store.proofs.Additions.{words_fresh}
use Rattle.node_filter.proofs.Filters.{covers_refused}
use Rattle.sheet_reading.proofs.Adding.{add_fault, add_refused, add_old, add_new}
use Rattle.sheet_reading.proofs.nodes.add_node.Goals as goal

pub returns-in_err-check_node-clause-adds_node : goal.returns-in_err-check_node-clause-adds_node
returns-in_err-check_node-clause-adds_node c = rw (passed _ _ c.from_residual.ensures.1) (add_fault c.in_err-check_node.ensures)

pub returns-in_err-check_node-clause-covers_after : goal.returns-in_err-check_node-clause-covers_after
returns-in_err-check_node-clause-covers_after c = rw (passed _ _ c.from_residual.ensures.1) covers_refused

pub intern_filtered-requires-clause-fresh : goal.intern_filtered-requires-clause-fresh
intern_filtered-requires-clause-fresh c = words_fresh c.in_ok-check_node.ensures c.requires.under

pub returns-in_err-n-clause-adds_node : goal.returns-in_err-n-clause-adds_node
returns-in_err-n-clause-adds_node c = rw (passed _ _ c.from_residual-in_err-n.ensures.1) (add_refused c.in_ok-check_node.ensures c.in_err-n.ensures.interns refl)

pub returns-in_err-n-clause-covers_after : goal.returns-in_err-n-clause-covers_after
returns-in_err-n-clause-covers_after c = rw (passed _ _ c.from_residual-in_err-n.ensures.1) covers_refused

pub returns-then-wide-c-clause-adds_node : goal.returns-then-wide-c-clause-adds_node
returns-then-wide-c-clause-adds_node c = add_old c.in_ok-check_node.ensures c.in_ok-n.ensures.interns refl c.wide.ensures (search rules)

pub returns-then-wide-c-clause-covers_after : goal.returns-then-wide-c-clause-covers_after
returns-then-wide-c-clause-covers_after c = covers_refused

pub returns-clause-adds_node : goal.returns-clause-adds_node
returns-clause-adds_node c = add_new c.in_ok-check_node.ensures c.in_ok-n.ensures.interns refl c.wide.ensures (search rules)

pub returns-clause-covers_after : goal.returns-clause-covers_after
returns-clause-covers_after c = c.in_ok-n.ensures.covers_after
