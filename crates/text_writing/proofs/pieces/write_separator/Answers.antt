-- By the kind.
use Rattle.types.specs.Kind as kinds
use Rattle.types.specs.Node.{tag_of_in}
use Rattle.text_writing.specs.Text.{separator}
use Rattle.text_writing.proofs.NodePieces.{separates, separates_not}
use Rattle.text_writing.proofs.pieces.write_separator.Goals as goal

pub returns-in-5 : goal.returns-in-5
unfolding separator tag_of_in
returns-in-5 c = search (separates kinds.lambda)

pub returns-in-6 : goal.returns-in-6
unfolding separator tag_of_in
returns-in-6 c = search (separates kinds.attr_set)

pub returns-in-7 : goal.returns-in-7
unfolding separator tag_of_in
returns-in-7 c = search (separates kinds.union)

pub returns-in-8 : goal.returns-in-8
unfolding separator tag_of_in
returns-in-8 c = search (separates kinds.intersection)

pub returns-in_default : goal.returns-in_default
returns-in_default c = search separates_not
