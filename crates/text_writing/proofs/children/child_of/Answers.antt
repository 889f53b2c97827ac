-- The child that the words say.
use Rattle.text_writing.proofs.Childhood.{child_there, child_read}
use borrow.Author.Rules.{rules}
use Rattle.text_writing.proofs.children.child_of.Goals as goal

pub offset_bounds-body-i : goal.offset_bounds-body-i
offset_bounds-body-i c = search (child_there, rules)

pub bounds-body-i : goal.bounds-body-i
bounds-body-i c = search child_there

pub returns : goal.returns
returns c = search child_read
