-- The invariant: the rows of the children still to come are left to join.
use Rattle.fitting.proofs.Joining.{Gathering}
use Rattle.fitting.proofs.joined.joined_row.Given as goal

abbrev pub invariant-loop-word : goal.invariant-loop-word
invariant-loop-word l = Gathering l.kind l.body l.pairs l.width l.row l.word-index
