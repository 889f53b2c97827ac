-- Three texts, one behind another.
use Rattle.spelling.specs.Spelling.{quoted}
use Rattle.appending.proofs.Appending.{writes_three}
use Rattle.appending.proofs.spelled.write_quoted.Goals as goal

pub returns : goal.returns
unfolding quoted
returns c = search writes_three
