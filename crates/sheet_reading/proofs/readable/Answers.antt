-- A longer input is cut.
use Rattle.sheet_reading.proofs.Cutting.{cut}
use Rattle.sheet_reading.proofs.readable.Goals as goal

pub returns : goal.returns
returns c = search cut
