-- The invariant: the set has what the nodes passed take, and no two of them take the same.
use Rattle.questions.proofs.Sharing.{Sharing}
use Rattle.questions.proofs.lambdas.shares.Given as goal

abbrev pub invariant-loop-n : goal.invariant-loop-n
invariant-loop-n l = Sharing l.words l.starts l.c l.met l.seen l.n
