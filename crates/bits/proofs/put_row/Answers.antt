-- The word with its bit set, in its row.
use Rattle.bits.proofs.Steps.{put_in}
use Rattle.bits.proofs.put_row.Goals as goal

pub returns : goal.returns
returns c = search put_in
