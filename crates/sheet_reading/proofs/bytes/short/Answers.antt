-- The bytes of the number, the most significant first.
use Rattle.sheet_reading.proofs.Numbers.{short_is}
use Rattle.sheet_reading.proofs.bytes.short.Goals as goal

pub returns : goal.returns
returns c = search short_is
