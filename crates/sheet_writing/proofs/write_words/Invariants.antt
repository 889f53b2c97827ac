-- The invariant: the words passed are written, one behind another.
use Rattle.sheet_writing.proofs.Writing.{Turn}
use Rattle.sheet_writing.proofs.write_words.Given as goal

abbrev pub invariant-loop-word : goal.invariant-loop-word
invariant-loop-word l = Turn l.words l.initial.bytes l.count l.bytes l.end l.word-index
