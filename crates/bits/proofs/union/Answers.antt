-- Each word of the result is what the closure answers at two words.
use Rattle.std.proofs.Common.{rules}
use mathlib.Core.Bool.{false}
use Rattle.bits.proofs.Combining.{combined}
use Rattle.bits.proofs.union.Goals as goal

pub returns : goal.returns
returns c = combined false c.combine.ensures.long (λ i h. let k = c.combine.ensures.each i h in search rules)
