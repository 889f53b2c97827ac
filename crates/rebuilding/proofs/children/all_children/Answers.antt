-- Where no variable is removable, all remain.
use Rattle.rebuilding.proofs.Copying.{all_remain}
use Rattle.rebuilding.proofs.children.all_children.Goals as goal

pub returns : goal.returns
returns c = search all_remain
