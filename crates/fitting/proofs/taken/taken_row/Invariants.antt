-- The invariant: the values passed have their bits, and no other has one.
use Rattle.fitting.proofs.Taking.{Taking}
use Rattle.fitting.proofs.taken.taken_row.Given as goal

abbrev pub invariant-loop-v : goal.invariant-loop-v
invariant-loop-v l = Taking l.node l.pairs l.width l.fix l.places l.count l.row l.v
