-- A letter, or the one byte besides.
use Rattle.spelling.proofs.Identifiers.{begins_told}
use Rattle.spelling.proofs.begins.Goals as goal

pub returns : goal.returns
returns c = search begins_told
