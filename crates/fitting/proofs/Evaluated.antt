-- Each case evaluates to what it says.
use mathlib.Core.Path.{refl}
use Rattle.types.specs.Arena.{sound}
use Rattle.fix_values.specs.Fix.{good}
use Rattle.fitting.specs.Fits.{fits}
use Rattle.fitting.specs.Worked.{passing}
use Rattle.fitting.specs.Theorems.{WorkedSo}

pub worked_so : WorkedSo
unfolding fits passing sound good
worked_so = refl
