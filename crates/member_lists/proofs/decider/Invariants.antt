-- The invariant: none of the first i members decides.
use Rattle.member_lists.proofs.Decisions.{Undecided}
use Rattle.member_lists.proofs.decider.Given as goal

abbrev pub invariant-loop-n : goal.invariant-loop-n
invariant-loop-n l = Undecided l.words l.starts l.c l.kind l.members l.bound l.n-index
