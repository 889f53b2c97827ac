-- The invariant: the node sought is among those not looked at, or nowhere.
use Rattle.node_store.proofs.Searches.{Seeks}
use Rattle.node_store.proofs.stored.find.Given as goal

abbrev pub invariant-loop-i : goal.invariant-loop-i
invariant-loop-i l = Seeks l.words l.starts l.c l.node l.i
