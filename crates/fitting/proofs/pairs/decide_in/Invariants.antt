-- The invariant: the rows of the nodes passed are right.
use Rattle.fitting.proofs.Deciding.{Deciding}
use Rattle.fitting.proofs.pairs.decide_in.Given as goal

abbrev pub invariant-loop-n : goal.invariant-loop-n
invariant-loop-n l = Deciding l.words l.starts l.c l.root l.fix l.places l.count l.initial.pairs l.width l.pairs l.n
