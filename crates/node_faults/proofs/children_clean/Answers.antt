-- `children_clean` tests the count, then the words.
use Rattle.node_faults.proofs.CleanBodies.{children_clean}
use Rattle.node_faults.proofs.children_clean.Goals as goal

pub returns-then-within : goal.returns-then-within
returns-then-within c = search children_clean
