-- The parenthesis, if there is one.
use Rattle.text_writing.proofs.Childhood.{child_closed}
use Rattle.text_writing.proofs.children.close_child.Goals as goal

pub returns : goal.returns
returns c = search child_closed
