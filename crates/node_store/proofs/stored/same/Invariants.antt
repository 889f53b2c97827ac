-- The invariant: the words passed are the same.
use Rattle.node_store.proofs.Loops.{Agree}
use Rattle.node_store.proofs.stored.same.Given as goal

abbrev pub invariant-loop-i : goal.invariant-loop-i
invariant-loop-i l = Agree l.a l.b l.i
