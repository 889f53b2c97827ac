-- The invariant: the fields of the type still to come decide, and the value's fields passed have names below theirs.
use Rattle.fitting.proofs.SetFits.{Missing}
use Rattle.fitting.proofs.sets.none_missing.Given as goal

abbrev pub invariant-loop-field : goal.invariant-loop-field
invariant-loop-field l = Missing l.fields l.value l.field-index l.j
