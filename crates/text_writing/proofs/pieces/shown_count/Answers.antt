-- Of a named type none.
use Rattle.text_writing.proofs.NodePieces.{shown_none, shown_all}
use Rattle.text_writing.proofs.pieces.shown_count.Goals as goal

pub returns-then-kind_in-eq-NAMED : goal.returns-then-kind_in-eq-NAMED
returns-then-kind_in-eq-NAMED c = search shown_none

pub returns : goal.returns
returns c = search shown_all
