-- The invariant: the fields of the value still to come decide, and the type's fields passed have names below theirs.
use Rattle.fitting.proofs.SetFits.{Taking}
use Rattle.fitting.proofs.sets.fields_take.Given as goal

abbrev pub invariant-loop-word : goal.invariant-loop-word
invariant-loop-word l = Taking l.fields l.value l.pairs l.width l.other l.i l.word-index
