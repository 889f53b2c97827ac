-- A set names its children.
use Rattle.text_writing.proofs.NodePieces.{head_there, labels_set, labels_not}
use borrow.Author.Rules.{rules}
use Rattle.text_writing.proofs.pieces.write_label.Goals as goal

pub bounds-node-0 : goal.bounds-node-0
bounds-node-0 c = search head_there

pub slice_bounds-write_set_label-count : goal.slice_bounds-write_set_label-count
slice_bounds-write_set_label-count c = search (head_there, rules)

pub slice_bounds-write_set_label-start : goal.slice_bounds-write_set_label-start
slice_bounds-write_set_label-start c = search (head_there, rules)

pub returns-then-kind_in-eq-ATTR_SET : goal.returns-then-kind_in-eq-ATTR_SET
returns-then-kind_in-eq-ATTR_SET c = search labels_set

pub returns : goal.returns
returns c = search labels_not
