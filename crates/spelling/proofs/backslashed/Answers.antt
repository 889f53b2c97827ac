-- By the byte: a `$` asks for the next.
use Rattle.spelling.proofs.Backslashes.{dollar_last, dollar_next, other_byte}
use Rattle.spelling.proofs.backslashed.Goals as goal

pub returns-then-next-name : goal.returns-then-next-name
returns-then-next-name c = search dollar_last

pub returns-then-name-i-eq36 : goal.returns-then-name-i-eq36
returns-then-name-i-eq36 c = search dollar_next

pub returns : goal.returns
returns c = search other_byte
