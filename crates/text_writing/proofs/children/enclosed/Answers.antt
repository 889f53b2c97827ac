-- By the kinds of the node and its child.
use Rattle.text_writing.proofs.Childhood.{parent_formed, child_enclosed, child_range}
use Rattle.text_writing.proofs.children.enclosed.Goals as goal

pub kind_at-kind-requires : goal.kind_at-kind-requires
kind_at-kind-requires c = search child_range

pub in_parens-requires : goal.in_parens-requires
in_parens-requires c = search parent_formed

pub returns : goal.returns
returns c = search child_enclosed
