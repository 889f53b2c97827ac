-- The invariant: the words from i on are in the hash.
use Rattle.node_filter.proofs.Hashes.{Hashing}
use Rattle.node_filter.proofs.hash.Given as goal

abbrev pub invariant-loop-i : goal.invariant-loop-i
invariant-loop-i l = Hashing l.node l.h l.i
