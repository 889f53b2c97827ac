-- The invariant: the words passed are joined, and the others are as they were.
use Rattle.fitting.proofs.Joining.{Joining}
use Rattle.fitting.proofs.joined.join.Given as goal

abbrev pub invariant-loop-i : goal.invariant-loop-i
invariant-loop-i l = Joining l.kind l.initial.row l.pairs l.width l.n l.row l.i
