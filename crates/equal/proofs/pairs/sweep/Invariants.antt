-- The invariant: equal roots make all partners equal, and from n on partners are matched.
use Rattle.equal.proofs.Sweeps.{Sweep}
use Rattle.equal.proofs.pairs.sweep.Given as goal

abbrev pub invariant-loop-n : goal.invariant-loop-n
invariant-loop-n l =
    Sweep l.names l.left_words l.left_starts l.left l.left_root l.right_words l.right_starts l.right l.right_root l.partners l.n
