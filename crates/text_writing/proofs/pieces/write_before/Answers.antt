-- Three texts, one behind another.
use Rattle.text_writing.specs.Text.{before}
use Rattle.appending.proofs.Appending.{writes_three}
use Rattle.text_writing.proofs.pieces.write_before.Goals as goal

pub returns : goal.returns
unfolding before
returns c = search writes_three
