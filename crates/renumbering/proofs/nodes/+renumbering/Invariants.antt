-- The cycle: the measure is three times the node's number, and then which half.
use Prim.Native.Nat.{◌+◌, ◌*◌}
use Rattle.node_filter.specs.Inner.Filter.{CoversLent}
use Rattle.recursion.proofs.Turns.{Turn}
use Rattle.renumbering.specs.Renumbered.{renumbered}
use Rattle.renumbering.specs.Inner.{Numbered}
use Rattle.renumbering.proofs.nodes.+renumbering.Given as goal

abbrev pub decreases-renumber_each : goal.decreases-renumber_each
decreases-renumber_each l = 3 * l.n

abbrev pub decreases-renumber_node : goal.decreases-renumber_node
decreases-renumber_node l = 3 * l.n + 2

abbrev pub decreases-renumber_uncached : goal.decreases-renumber_uncached
decreases-renumber_uncached l = 3 * l.n + 1

abbrev pub invariant-renumber_each-loop-i : goal.invariant-renumber_each-loop-i
invariant-renumber_each-loop-i l = Turn (renumbered l.vars) (Numbered l.vars) l.initial.words l.initial.starts l.initial.last l.n l.initial.items l.count l.initial.cache l.words l.starts l.items l.cache l.last l.i × CoversLent l.words l.starts l.last l.filter
