use Rattle.spelling.proofs.Words.{told_same}
use Rattle.spelling.proofs.same.Goals as goal

pub returns : goal.returns
returns c = search told_same
