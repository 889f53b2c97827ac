-- The measure is the node's number. The loop's invariant is `Turn`.
use Rattle.free_vars.proofs.Collections.{Turn}
use Rattle.free_vars.proofs.+collect.Given as goal

abbrev pub decreases-collect : goal.decreases-collect
decreases-collect l = l.n

abbrev pub invariant-loop-word : goal.invariant-loop-word
invariant-loop-word l =
    Turn l.words l.starts l.c l.n l.initial.done l.initial.vars l.count l.word-items l.done l.vars l.total l.word-index
