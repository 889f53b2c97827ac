-- The bytes, or nothing.
use Rattle.appending.proofs.Appending.{writes_when, writes_unless}
use Rattle.appending.proofs.append_if.Goals as goal

pub returns-then-so : goal.returns-then-so
returns-then-so c = search writes_when

pub returns-else-so : goal.returns-else-so
returns-else-so c = search writes_unless
