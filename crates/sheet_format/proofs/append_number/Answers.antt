-- The number, then the space.
use Rattle.appending.proofs.Appending.{writes_then}
use Rattle.sheet_format.proofs.append_number.Goals as goal

pub returns : goal.returns
returns c = search writes_then
