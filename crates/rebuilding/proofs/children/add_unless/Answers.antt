-- A dropped member changes nothing.
use Rattle.rebuilding.proofs.Copying.{not_added, added}
use Rattle.rebuilding.proofs.children.add_unless.Goals as goal

pub returns-then-dropped : goal.returns-then-dropped
returns-then-dropped c = search not_added

pub returns : goal.returns
returns c = search added
