-- The codes of `number` and `uri`, and then the kind of the same number.
use Rattle.fitting.proofs.Held.{number_takes, uri_takes, kind_takes}
use Rattle.fitting.proofs.taken.primitive_takes.Goals as goal

pub returns-then-code-eq7 : goal.returns-then-code-eq7
returns-then-code-eq7 c = search number_takes

pub returns-then-code-eq6 : goal.returns-then-code-eq6
returns-then-code-eq6 c = search uri_takes

pub returns : goal.returns
returns c = search kind_takes
