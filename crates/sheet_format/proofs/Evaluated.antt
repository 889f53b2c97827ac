-- Every worked sheet has the line that its list says, by evaluation.
use mathlib.Core.Path.{refl}
use Rattle.words.specs.Words.{head_word}
use Rattle.types.specs.Node.{child_words_in, head_of}
use Rattle.sheet_format.specs.Line.{sheet_line_in}
use Rattle.sheet_format.specs.Theorems.{WorkedSo}

pub worked_so : WorkedSo
unfolding sheet_line_in child_words_in head_of head_word
worked_so = refl
