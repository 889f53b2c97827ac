-- The child stands in the lowest bits, so that taking it off leaves the others.
use Rattle.words.specs.Words.{child}
use Rattle.rebuilding.specs.Inner.Rebuilt.{with_child}
use borrow.Author.Rules.{rules}
use Rattle.rebuilding.proofs.node.with_child.Goals as goal

pub overflow_sub-result : goal.overflow_sub-result
unfolding child
overflow_sub-result c = search rules

pub overflow_add-result : goal.overflow_add-result
unfolding child
overflow_add-result c = search rules

pub returns : goal.returns
unfolding with_child
returns c = search rules
