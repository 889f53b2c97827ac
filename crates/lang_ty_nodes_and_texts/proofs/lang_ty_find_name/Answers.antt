-- A position is told in two numbers, a refusal as its own.
use Rattle.types.specs.Out.{◌>>=◌}
use Rattle.lang_ty_nodes_and_texts.proofs.lang_ty_find_name.Goals as goal

pub returns-in-Ok : goal.returns-in-Ok
unfolding ◌>>=◌
returns-in-Ok c = rw (c.from.ensures, ← c.in-Ok.ensures)

pub returns-in-Err : goal.returns-in-Err
unfolding ◌>>=◌
returns-in-Err c = rw (c.number.ensures, ← c.in-Err.ensures)
