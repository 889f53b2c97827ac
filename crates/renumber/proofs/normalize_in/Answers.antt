-- A root that is a variable, where it is to become the unknown one, and any other.
use Rattle.renumbering.proofs.VarNodes.{var_fresh}
use Rattle.renumber.proofs.Calls.{unknown_done, known_done}
use Rattle.renumber.proofs.normalize_in.Goals as goal

pub intern_node-requires : goal.intern_node-requires
intern_node-requires c = search var_fresh

pub returns-then-unknown-kind_at : goal.returns-then-unknown-kind_at
returns-then-unknown-kind_at c = search unknown_done

pub returns : goal.returns
returns c = search known_done
