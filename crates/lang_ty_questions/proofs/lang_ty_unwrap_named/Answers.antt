-- The number fits 32 bits, since no arena has more than 4,096 nodes.
use Rattle.lang_ty_questions.proofs.Unwrapping.{unwrapped_fits}
use Rattle.lang_ty_questions.proofs.lang_ty_unwrap_named.Goals as goal

pub overflow_cast-number : goal.overflow_cast-number
overflow_cast-number c = search (unwrapped_fits, c.in-Ok.ensures)
