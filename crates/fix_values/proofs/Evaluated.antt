-- Each case evaluates to what it says.
use mathlib.Core.Path.{refl}
use Rattle.words.specs.Words.{head_word, field_word}
use Rattle.fix_values.specs.Fix.{fix_of}
use Rattle.fix_values.specs.Theorems.{WorkedSo}

pub worked_so : WorkedSo
unfolding fix_of head_word field_word
worked_so = refl
