-- The variables are listed where they are lent; a refusal leaves what was there.
use Rattle.lang_ty_questions.proofs.Lists.{tell_list}
use Rattle.lang_ty_questions.proofs.lang_ty_free_type_vars.Goals as goal

pub returns : goal.returns
returns c = search tell_list
