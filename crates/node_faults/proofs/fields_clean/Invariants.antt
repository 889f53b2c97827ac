-- `fields_clean` tests each word. The loop's invariant: the words passed have no fault, and their names are below `low`.
use Rattle.node_faults.proofs.Quick.{FieldsPassed}
use Rattle.node_faults.proofs.fields_clean.Given as goal

abbrev pub invariant-loop-word : goal.invariant-loop-word
invariant-loop-word l = FieldsPassed l.nodes l.words l.low l.word-index
