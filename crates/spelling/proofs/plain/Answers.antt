-- An identifier that isn't reserved.
use Rattle.spelling.proofs.Identifiers.{plain_not, plain_unless}
use Rattle.spelling.proofs.plain.Goals as goal

pub returns-then-identifier : goal.returns-then-identifier
returns-then-identifier c = search plain_unless

pub returns-else-identifier : goal.returns-else-identifier
returns-else-identifier c = search plain_not
