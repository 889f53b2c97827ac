-- A yes or no is told as its bit, a refusal as its own number.
use mathlib.Core.Path.{ap, ◌∙◌}
use Rattle.words.specs.Words.{bit}
use Rattle.lang_ty.specs.Told.{tell}
use Rattle.lang_ty.proofs.Telling.{mapped}
use Rattle.lang_ty_questions.proofs.tell_asked.Goals as goal

pub returns : goal.returns
returns c = c.tell.ensures ∙ ap (tell _) (mapped bit _ c.map.ensures.cases)
