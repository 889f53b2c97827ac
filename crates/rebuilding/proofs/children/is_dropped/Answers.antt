-- Where no variable is removable, no member is.
use Rattle.rebuilding.proofs.Dropping.{none_dropped, tested}
use Rattle.rebuilding.proofs.children.is_dropped.Goals as goal

pub returns-then-keep : goal.returns-then-keep
returns-then-keep c = search none_dropped

pub returns : goal.returns
returns c = search tested
