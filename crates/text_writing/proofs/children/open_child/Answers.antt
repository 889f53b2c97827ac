-- What stands before the child, with the parenthesis if there is one.
use Rattle.text_writing.proofs.Childhood.{parent_formed, child_opened}
use Rattle.text_writing.proofs.children.open_child.Goals as goal

pub write_before-requires : goal.write_before-requires
write_before-requires c = search parent_formed

pub returns : goal.returns
returns c = search child_opened
