-- The cycle: the measure is three times the node's number, and then which part.
use Prim.Native.Nat.{◌+◌, ◌*◌}
use Rattle.node_filter.specs.Inner.Filter.{CoversLent}
use Rattle.recursion.proofs.Turns.{Turn}
use Rattle.importing.specs.Import.{import_node as import-node-of}
use Rattle.importing.specs.Inner.Names.{by_map}
use Rattle.importing.specs.Inner.Nodes.{Foreign, AllComplete}
use Rattle.importing.proofs.nodes.+importing.Given as goal

abbrev pub decreases-import_each : goal.decreases-import_each
decreases-import_each l = 3 * l.n

abbrev pub decreases-import_node : goal.decreases-import_node
decreases-import_node l = 3 * l.n + 2

abbrev pub decreases-import_uncached : goal.decreases-import_uncached
decreases-import_uncached l = 3 * l.n + 1

abbrev pub invariant-import_each-loop-i : goal.invariant-import_each-loop-i
invariant-import_each-loop-i l = Turn (import-node-of (by_map l.names)) (Foreign l.names l.words l.starts l.c) l.initial.target_words l.initial.target_starts l.initial.last l.n l.initial.items l.count l.initial.cache l.target_words l.target_starts l.items l.cache l.last l.i × CoversLent l.target_words l.target_starts l.last l.filter × AllComplete l.names l.words l.starts l.c l.initial.items l.count
