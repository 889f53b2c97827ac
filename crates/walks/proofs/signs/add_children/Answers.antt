-- A node's words hold its children.
use Rattle.walks.proofs.Visiting.{children_added}
use Rattle.walks.proofs.signs.add_children.Goals as goal

pub returns : goal.returns
returns c = search children_added
