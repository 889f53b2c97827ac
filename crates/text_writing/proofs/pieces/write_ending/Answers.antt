-- By the kind.
use Rattle.types.specs.Kind as kinds
use Rattle.types.specs.Node.{tag_of_in}
use Rattle.text_writing.specs.Text.{ending}
use Rattle.text_writing.proofs.NodePieces.{head_there, ends, ends_set, ends_not}
use Rattle.text_writing.proofs.pieces.write_ending.Goals as goal

pub returns-then-kind-eq-LIST : goal.returns-then-kind-eq-LIST
unfolding ending tag_of_in
returns-then-kind-eq-LIST c = search (ends kinds.list)

pub bounds-node-0 : goal.bounds-node-0
bounds-node-0 c = search head_there

pub returns-then-kind-eq-ATTR_SET : goal.returns-then-kind-eq-ATTR_SET
returns-then-kind-eq-ATTR_SET c = search ends_set

pub returns : goal.returns
returns c = search ends_not
