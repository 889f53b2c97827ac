-- The set is that of the one-signed nodes, and the caches are empty.
use Rattle.pass.proofs.Passing.{once_ready, once_done}
use Rattle.pass.proofs.once.simplify_once.Goals as goal

pub apply_simplification-requires-clause-ready : goal.apply_simplification-requires-clause-ready
apply_simplification-requires-clause-ready c = search once_ready

pub returns-clause-simplifies_once : goal.returns-clause-simplifies_once
returns-clause-simplifies_once c = search once_done
