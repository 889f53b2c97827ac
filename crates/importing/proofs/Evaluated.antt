-- Every import gives what its case says, by evaluation.
use mathlib.Core.Path.{refl}
use Rattle.types.specs.Node.{child_words_in}
use Rattle.importing.specs.Import.{number_in, import_from_arena}
use Rattle.importing.specs.Theorems.{WorkedSo}

pub worked_so : WorkedSo
unfolding child_words_in number_in import_from_arena
worked_so = refl
