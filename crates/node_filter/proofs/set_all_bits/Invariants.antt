-- The invariant: the bits of the nodes so far are set.
use Rattle.node_filter.proofs.Filters.{CoversFirst}
use Rattle.node_filter.proofs.set_all_bits.Given as goal

abbrev pub invariant-loop-n : goal.invariant-loop-n
invariant-loop-n l = CoversFirst l.words l.starts l.c l.n l.filter
