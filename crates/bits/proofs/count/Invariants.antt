-- The invariant: the numbers of the words passed are counted.
use Rattle.bits.proofs.Steps.{Counted}
use Rattle.bits.proofs.count.Given as goal

abbrev pub invariant-loop-word : goal.invariant-loop-word
invariant-loop-word l = Counted l.seen l.sum l.word-index
