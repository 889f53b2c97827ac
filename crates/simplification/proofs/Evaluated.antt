-- Every worked type becomes what document 01 says, by evaluation.
use mathlib.Core.Path.{refl}
use Rattle.types.specs.Node.{child_words_in}
use Rattle.simplification.specs.Passes.{simplify}
use Rattle.simplification.specs.Theorems.{WorkedSo}

pub worked_so : WorkedSo
unfolding simplify child_words_in
worked_so = refl
