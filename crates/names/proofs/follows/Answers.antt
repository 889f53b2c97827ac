-- `comes_next`, and no odd byte.
use Rattle.names.proofs.Following.{follows_not, follows_few, follows_told}
use Rattle.names.proofs.follows.Goals as goal

pub returns-then-not-comes_next : goal.returns-then-not-comes_next
returns-then-not-comes_next c = search follows_not

pub count_odd-requires : goal.count_odd-requires
count_odd-requires c = search follows_few

pub returns : goal.returns
returns c = search follows_told
