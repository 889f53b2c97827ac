-- Every worked sheet says what its list has, by evaluation.
use mathlib.Core.Path.{refl}
use Rattle.words.specs.Words.{head_word}
use Rattle.types.specs.Node.{child_words_in, head_of}
use Rattle.sheet_reading.specs.Sheet.{read_sheet_in}
use Rattle.sheet_reading.specs.Theorems.{WorkedSo}

pub worked_so : WorkedSo
unfolding read_sheet_in child_words_in head_of head_word
worked_so = refl
