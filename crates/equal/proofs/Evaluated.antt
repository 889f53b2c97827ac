-- Every pair is as its case says, by evaluation.
use mathlib.Core.Path.{refl}
use Rattle.equal.specs.Equal.{equal}
use Rattle.equal.specs.Theorems.{WorkedSo}

pub worked_so : WorkedSo
unfolding equal
worked_so = refl
