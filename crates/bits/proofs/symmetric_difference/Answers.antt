-- Each word of the result is what the closure answers at two words.
use Rattle.std.proofs.Common.{rules}
use mathlib.Core.Bool.{true}
use Rattle.bits.proofs.Combining.{combined}
use Rattle.bits.proofs.symmetric_difference.Goals as goal

pub returns : goal.returns
returns c = combined true c.combine.ensures.long (λ i h. let k = c.combine.ensures.each i h in search rules)
