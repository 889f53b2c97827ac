-- By the cases of the answer.
use Rattle.lang_ty_rewriting.proofs.TellingArenas.{worked_node, worked_refused}
use Rattle.lang_ty_rewriting.proofs.tell_worked.Goals as goal

pub returns-in_default : goal.returns-in_default
returns-in_default c = search worked_refused

pub returns : goal.returns
returns c = search worked_node
