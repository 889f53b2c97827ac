-- The invariant: the words still to come decide, from the name after the last.
use Rattle.fix_values.proofs.Passing.{Passed}
use Rattle.fix_values.proofs.fields_good.Given as goal

abbrev pub invariant-loop-word : goal.invariant-loop-word
invariant-loop-word l = Passed l.names l.values l.words l.low l.word-index
