use Rattle.display.proofs.Printings.{prints_over, node_range, node_formed, printing_start, printing_formed, printing_child, printing_falls, printing_range, printing_more, printing_done}
use borrow.Author.Rules.{rules}
use Rattle.display.proofs.+write_ty.Goals as goal

pub returns-then-count-text : goal.returns-then-count-text
returns-then-count-text t c = search prints_over

pub node_at-node-requires : goal.node_at-node-requires
node_at-node-requires t c = search node_range

pub shown_count-children-requires : goal.shown_count-children-requires
shown_count-children-requires t c = search node_formed

pub write_beginning-end-requires-clause-formed : goal.write_beginning-end-requires-clause-formed
write_beginning-end-requires-clause-formed t c = search node_formed

pub loop-i-init : goal.loop-i-init
loop-i-init t c = printing_start c.shown_count-children.ensures c.node_at-node.ensures c.wide.ensures (search rules)

pub open_child-end-requires-clause-child_of : goal.open_child-end-requires-clause-child_of
open_child-end-requires-clause-child_of t c = search printing_child

pub child_of-child-requires : goal.child_of-child-requires
child_of-child-requires t c = printing_child c.loop-i.invariant c.loop-i-test.true

pub write_ty-end-requires : goal.write_ty-end-requires
write_ty-end-requires t c =
    let p = c.requires in
    let I = c.loop-i.invariant in
    let h = c.loop-i-test.true in
    let M = c.child_of-child.ensures in
    (search (printing_falls I h M), (printing_range I h M, p.places))

pub close_child-end-requires : goal.close_child-end-requires
close_child-end-requires t c = printing_child c.loop-i.invariant c.loop-i-test.true

pub loop-i-preserved : goal.loop-i-preserved
loop-i-preserved t c = printing_more c.close_child-end.ensures c.write_ty-end.ensures c.child_of-child.ensures c.open_child-end.ensures c.loop-i-test.true c.loop-i.invariant

pub write_ending-requires : goal.write_ending-requires
write_ending-requires t c = search printing_formed

pub returns : goal.returns
returns t c = search printing_done
