-- The invariant: i words of the node are written, and no other word is changed.
use Rattle.node_store.proofs.Loops.{Writes}
use Rattle.node_store.proofs.added.put.Given as goal

abbrev pub invariant-loop-i : goal.invariant-loop-i
invariant-loop-i l = Writes l.initial.words l.at l.node l.words l.i
