-- The invariant: what is set has a place, and from n on the sets are closed under children.
use Rattle.walks.proofs.Marks.{Sweep}
use Rattle.walks.proofs.signs.signs_of.Given as goal

abbrev pub invariant-loop-n : goal.invariant-loop-n
invariant-loop-n l = Sweep l.words l.starts l.c l.root l.positive l.negative l.n
