-- The invariant: the set is right for the nodes passed, and has no other.
use Rattle.questions.proofs.VarWalks.{Knowing}
use Rattle.questions.proofs.vars.has_var.Given as goal

abbrev pub invariant-loop-n : goal.invariant-loop-n
invariant-loop-n l = Knowing l.words l.starts l.c l.skip l.root l.met l.n
