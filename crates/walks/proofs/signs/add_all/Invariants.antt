-- The invariant: i children are put into the sets of their signs, and nothing else is.
use Rattle.walks.proofs.Sweeps.{Adding}
use Rattle.walks.proofs.signs.add_all.Given as goal

abbrev pub invariant-loop-i : goal.invariant-loop-i
invariant-loop-i l = Adding l.node l.sign l.kind l.word-items l.initial.positive l.initial.negative l.positive l.negative l.i
