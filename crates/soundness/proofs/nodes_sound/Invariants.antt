-- The invariant: the first n nodes are read, only an arena that grew from them can be what memory holds, and their bits are set.
use Rattle.soundness.proofs.Checks.{Reading}
use Rattle.soundness.proofs.nodes_sound.Given as goal

abbrev pub invariant-loop-n : goal.invariant-loop-n
invariant-loop-n l = Reading l.names l.words l.starts l.c l.n l.at l.filter
