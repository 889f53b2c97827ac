-- The two words are those of the variable's node.
use Rattle.renumbering.proofs.VarNodes.{var_made}
use Rattle.renumbering.proofs.vars.var_words.Goals as goal

pub returns : goal.returns
returns c = search var_made
