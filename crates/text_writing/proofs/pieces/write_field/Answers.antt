-- Three texts, one behind another.
use Rattle.text_writing.proofs.NodePieces.{writes_field}
use Rattle.text_writing.proofs.pieces.write_field.Goals as goal

pub returns : goal.returns
returns c = search writes_field
