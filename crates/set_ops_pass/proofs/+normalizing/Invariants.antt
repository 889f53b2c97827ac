-- The cycle: the measure is four times the node's number, and then which of the five.
use Prim.Native.Nat.{◌+◌, ◌*◌}
use Rattle.node_filter.specs.Inner.Filter.{CoversLent}
use Rattle.recursion.specs.Inner.Work.{Grown}
use Rattle.recursion.proofs.Turns.{Turn}
use Rattle.set_op_lists.specs.SetOps.{normalize}
use Rattle.set_ops_pass.proofs.Flattening.{FlatTurn}
use Rattle.set_ops_pass.proofs.+normalizing.Given as goal

abbrev pub decreases-flatten_set_op_cached : goal.decreases-flatten_set_op_cached
decreases-flatten_set_op_cached l = 4 * l.n + 1

abbrev pub decreases-normalize_children : goal.decreases-normalize_children
decreases-normalize_children l = 4 * l.n + 2

abbrev pub decreases-normalize_each : goal.decreases-normalize_each
decreases-normalize_each l = 4 * l.n + 1

abbrev pub decreases-normalize_set_ops_cached : goal.decreases-normalize_set_ops_cached
decreases-normalize_set_ops_cached l = 4 * l.n + 4

abbrev pub decreases-normalize_set_ops_uncached : goal.decreases-normalize_set_ops_uncached
decreases-normalize_set_ops_uncached l = 4 * l.n + 3

abbrev pub invariant-flatten_set_op_cached-loop-i : goal.invariant-flatten_set_op_cached-loop-i
invariant-flatten_set_op_cached-loop-i l =
    FlatTurn l.initial.words l.initial.starts l.initial.last l.n l.kind l.initial.cache l.total l.words l.starts l.cache l.list.items l.list.count l.met l.last l.i × CoversLent l.words l.starts l.last l.filter

abbrev pub invariant-normalize_each-loop-i : goal.invariant-normalize_each-loop-i
invariant-normalize_each-loop-i l =
    Turn normalize Grown l.initial.words l.initial.starts l.initial.last l.n l.initial.items l.count l.initial.cache l.words l.starts l.items l.cache l.last l.i × CoversLent l.words l.starts l.last l.filter
