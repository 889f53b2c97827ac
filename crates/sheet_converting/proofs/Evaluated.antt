-- Every worked sheet becomes what its list has, by evaluation.
use mathlib.Core.Path.{refl}
use Rattle.words.specs.Words.{head_word, field_word}
use Rattle.types.specs.Node.{child_words_in, head_of}
use Rattle.sheet_converting.specs.Convert.{convert_reply}
use Rattle.sheet_converting.specs.Theorems.{WorkedSo}

pub worked_so : WorkedSo
unfolding convert_reply child_words_in head_of head_word field_word
worked_so = refl
