-- The invariant: the first i fields are renamed.
use Rattle.importing.proofs.FieldWords.{Turn}
use Rattle.importing.proofs.fields.rename_fields.Given as goal

abbrev pub invariant-loop-i : goal.invariant-loop-i
invariant-loop-i l = Turn l.names l.count l.initial.node l.node l.i
