-- Open or not.
use Rattle.text_writing.proofs.NodePieces.{ends_open, ends_closed}
use Rattle.text_writing.proofs.pieces.write_set_ending.Goals as goal

pub returns-then-opened : goal.returns-then-opened
returns-then-opened c = search ends_open

pub returns : goal.returns
returns c = search ends_closed
