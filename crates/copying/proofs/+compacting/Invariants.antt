-- The cycle: the measure is three times the node's number, and then which part.
use Prim.Native.Nat.{◌+◌, ◌*◌}
use Rattle.recursion.proofs.Turns.{Turn}
use Rattle.copying.specs.Copy.{copy}
use Rattle.copying.specs.Inner.{Source, AllCached}
use Rattle.copying.proofs.+compacting.Given as goal

abbrev pub decreases-compact_each : goal.decreases-compact_each
decreases-compact_each l = 3 * l.n

abbrev pub decreases-compact_inner : goal.decreases-compact_inner
decreases-compact_inner l = 3 * l.n + 2

abbrev pub decreases-compact_inner_uncached : goal.decreases-compact_inner_uncached
decreases-compact_inner_uncached l = 3 * l.n + 1

abbrev pub invariant-compact_each-loop-i : goal.invariant-compact_each-loop-i
invariant-compact_each-loop-i l = Turn copy (Source l.words l.starts l.c) l.initial.target_words l.initial.target_starts l.initial.last l.n l.initial.items l.count l.initial.cache l.target_words l.target_starts l.items l.cache l.last l.i × AllCached l.words l.starts l.c l.target_words l.target_starts l.last l.cache
