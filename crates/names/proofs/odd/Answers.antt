-- A truth is 1 or 0.
use Rattle.names.proofs.OddBytes.{odd_told}
use Rattle.names.proofs.odd.Goals as goal

pub returns : goal.returns
returns c = search odd_told
