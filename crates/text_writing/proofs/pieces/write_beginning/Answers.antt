-- By the kind.
use Rattle.types.specs.Kind as kinds
use Rattle.types.specs.Node.{tag_of_in}
use Rattle.text_writing.specs.Text.{beginning}
use Rattle.text_writing.proofs.NodePieces.{short_fits, head_there, begins, begins_primitive, begins_var, begins_name, begins_not}
use borrow.Author.Rules.{rules}
use Rattle.text_writing.proofs.pieces.write_beginning.Goals as goal

pub slice_bounds-body-count : goal.slice_bounds-body-count
slice_bounds-body-count c = search (head_there, rules)

pub slice_bounds-body-start : goal.slice_bounds-body-start
slice_bounds-body-start c = search (head_there, rules)

pub returns-in-0 : goal.returns-in-0
unfolding beginning tag_of_in
returns-in-0 c = search (begins kinds.bottom)

pub returns-in-1 : goal.returns-in-1
unfolding beginning tag_of_in
returns-in-1 c = search (begins kinds.top)

pub write_short-requires : goal.write_short-requires
write_short-requires c = search short_fits

pub returns-in-2 : goal.returns-in-2
returns-in-2 c = search begins_primitive

pub write_short-requires-in-3 : goal.write_short-requires-in-3
write_short-requires-in-3 c = search short_fits

pub returns-in-3 : goal.returns-in-3
returns-in-3 c = search begins_var

pub returns-in-4 : goal.returns-in-4
unfolding beginning tag_of_in
returns-in-4 c = search (begins kinds.list)

pub returns-in-6 : goal.returns-in-6
unfolding beginning tag_of_in
returns-in-6 c = search (begins kinds.attr_set)

pub returns-in-9 : goal.returns-in-9
returns-in-9 c = search begins_name

pub returns-in-10 : goal.returns-in-10
unfolding beginning tag_of_in
returns-in-10 c = search (begins kinds.neg)

pub returns-in_default : goal.returns-in_default
returns-in_default c = search begins_not
