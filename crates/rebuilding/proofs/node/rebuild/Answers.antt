-- A node with its own children is there already; one with others has a child.
use Rattle.node_filter.proofs.Filters.{covers_kept}
use Rattle.rebuilding.proofs.Interning.{one_each, unchanged, some_item}
use Rattle.rebuilding.proofs.node.rebuild.Goals as goal

pub same_children-requires : goal.same_children-requires
same_children-requires c = search one_each

pub returns-then-same_children-clause-rebuilds : goal.returns-then-same_children-clause-rebuilds
returns-then-same_children-clause-rebuilds c = search unchanged

pub returns-then-same_children-clause-covers_after : goal.returns-then-same_children-clause-covers_after
returns-then-same_children-clause-covers_after c = search covers_kept

pub intern_with-requires-clause-rebuilding : goal.intern_with-requires-clause-rebuilding
intern_with-requires-clause-rebuilding c = c.requires.rebuilding

pub intern_with-requires-clause-covers_lent : goal.intern_with-requires-clause-covers_lent
intern_with-requires-clause-covers_lent c = c.requires.covers_lent

pub intern_with-requires-clause-count_nonzero : goal.intern_with-requires-clause-count_nonzero
intern_with-requires-clause-count_nonzero c = search some_item
