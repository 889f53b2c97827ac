-- The bit that the shift reads.
use Rattle.bits.proofs.Steps.{tested}
use Rattle.bits.proofs.test_row.Goals as goal

pub returns : goal.returns
returns c = search tested
