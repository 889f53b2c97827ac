-- The invariant: the words passed of each stretch are zero exactly if no bit of them is set.
use Rattle.soundness.proofs.Zeros.{Four}
use Rattle.soundness.proofs.four_zero.Given as goal

abbrev pub invariant-loop-i : goal.invariant-loop-i
invariant-loop-i l = Four l.a l.b l.c l.d l.ones l.i
