-- The invariant: the children still to come decide.
use Rattle.questions.proofs.VarWalks.{Looking}
use Rattle.questions.proofs.vars.some_child.Given as goal

abbrev pub invariant-loop-i : goal.invariant-loop-i
invariant-loop-i l = Looking l.body l.met l.from l.i
