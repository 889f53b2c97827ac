-- Reply and demand are those that `simplify` promises, told by the cases of its answer; 0 isn't told of a refusal.
use Rattle.lang_ty_rewriting.proofs.TellingArenas.{simplified_type, simplified_refused}
use Rattle.lang_ty_rewriting.proofs.lang_ty_simplify.Goals as goal

pub returns-in_default : goal.returns-in_default
returns-in_default c = search simplified_refused

pub returns : goal.returns
returns c = simplified_type c.simplify-simplified.ensures c.in-Ok.is
