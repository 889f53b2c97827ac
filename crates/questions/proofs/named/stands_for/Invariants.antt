-- The invariant: the node reached stands for what the root stands for; numbers fall.
use Rattle.questions.proofs.NameWalks.{Down}
use Rattle.questions.proofs.named.stands_for.Given as goal

abbrev pub invariant-loop-kind : goal.invariant-loop-kind
invariant-loop-kind l = Down l.words l.starts l.c l.root l.n l.kind

abbrev pub decreases-loop-kind : goal.decreases-loop-kind
decreases-loop-kind l = l.n
