-- The invariant: the words passed are zero exactly if no bit of them is set.
use Rattle.soundness.proofs.Zeros.{Ones}
use Rattle.soundness.proofs.few_zero.Given as goal

abbrev pub invariant-loop-word : goal.invariant-loop-word
invariant-loop-word l = Ones l.words l.ones l.word-index
