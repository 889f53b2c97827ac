-- Nothing before the first child, the bytes before any other.
use Rattle.appending.proofs.Appending.{writes_first, writes_later}
use Rattle.appending.proofs.append_after.Goals as goal

pub returns-then-i-eq0 : goal.returns-then-i-eq0
returns-then-i-eq0 c = search writes_first

pub returns-else-i-eq0 : goal.returns-else-i-eq0
returns-else-i-eq0 c = search writes_later
