-- The invariant: what i members bring is appended.
use Rattle.member_lists.proofs.Splices.{Passed}
use Rattle.member_lists.proofs.growing.flatten.Given as goal

abbrev pub invariant-loop-n : goal.invariant-loop-n
invariant-loop-n l = Passed l.words l.starts l.c l.kind l.members l.initial.items l.initial.met l.items l.held l.met l.n-index
