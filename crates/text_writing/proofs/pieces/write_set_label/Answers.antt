-- Fields first.
use Rattle.text_writing.proofs.NodePieces.{labels_field, labels_dynamic}
use Rattle.text_writing.proofs.pieces.write_set_label.Goals as goal

pub returns-then-i-field_count : goal.returns-then-i-field_count
returns-then-i-field_count c = search labels_field

pub returns : goal.returns
returns c = search labels_dynamic
