-- The invariant: i words are copied.
use Rattle.sheet_reading.proofs.Copying.{Copies}
use Rattle.sheet_reading.proofs.nodes.copy_words.Given as goal

abbrev pub invariant-loop-i : goal.invariant-loop-i
invariant-loop-i l = Copies l.bytes l.initial.words l.count l.words l.i
