-- Every worked text is the definition's, by evaluation.
use mathlib.Core.Path.{refl}
use Rattle.text_writing.specs.Text.{type_text}
use Rattle.display.specs.Theorems.{WorkedSo}

pub worked_so : WorkedSo
unfolding type_text
worked_so = refl
