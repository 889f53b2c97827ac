-- The cycle: the measure is four times the node's number, and then which half.
use Prim.Native.Nat.{◌+◌, ◌*◌}
use Rattle.pass.proofs.Turns.{Turn}
use Rattle.node_filter.specs.Inner.Filter.{CoversLent}
use Rattle.pass.proofs.apply.+applying.Given as goal

abbrev pub decreases-apply_each : goal.decreases-apply_each
decreases-apply_each l = 4 * l.n

abbrev pub decreases-apply_first : goal.decreases-apply_first
decreases-apply_first l = 4 * l.n + 1

abbrev pub decreases-apply_simplification : goal.decreases-apply_simplification
decreases-apply_simplification l = 4 * l.n + 3

abbrev pub decreases-apply_simplification_uncached : goal.decreases-apply_simplification_uncached
decreases-apply_simplification_uncached l = 4 * l.n + 2

abbrev pub invariant-apply_each-loop-i : goal.invariant-apply_each-loop-i
invariant-apply_each-loop-i l = Turn l.initial.words l.initial.starts l.initial.last l.n l.initial.items l.count l.removable l.keep l.initial.dropped l.initial.kept l.words l.starts l.items l.dropped l.kept l.last l.i × CoversLent l.words l.starts l.last l.filter
