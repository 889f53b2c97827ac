-- An order is told as its number, a refusal as its own.
use mathlib.Core.Path.{ap, ◌∙◌}
use Rattle.lang_ty.specs.Told.{tell, told_as, order_number}
use Rattle.lang_ty.proofs.Telling.{mapped}
use Rattle.lang_ty_nodes_and_texts.proofs.lang_ty_compare.Goals as goal

pub returns : goal.returns
returns c = c.tell.ensures ∙ ap (tell _) (mapped order_number _ c.map.ensures.cases ∙ ap (told_as order_number) c.compare-answer.ensures)
