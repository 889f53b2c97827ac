-- The name is that of the table.
use Rattle.text_writing.proofs.NodePieces.{writes_name}
use Rattle.text_writing.proofs.pieces.write_name.Goals as goal

pub returns : goal.returns
returns c = search writes_name
