-- The reply is that of the call, as `tell_worked` tells it.
use Rattle.lang_ty_rewriting.proofs.TellingArenas.{worked_told}
use Rattle.lang_ty_rewriting.proofs.lang_ty_normalize_vars.Goals as goal

pub returns : goal.returns
returns c = search worked_told
