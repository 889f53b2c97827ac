-- The word behind the head.
use Rattle.renumbering.proofs.VarNodes.{var_second, var_read}
use Rattle.renumbering.proofs.vars.var_at.Goals as goal

pub bounds-node_at-1 : goal.bounds-node_at-1
bounds-node_at-1 c = search var_second

pub returns : goal.returns
returns c = search var_read
