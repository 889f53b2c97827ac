-- The invariant: the number so far is 0 or comes after a child.
use Rattle.node_store.specs.Inner.Stored.{AfterChildren}
use Rattle.node_store.proofs.stored.after_children.Given as goal

abbrev pub invariant-loop-word : goal.invariant-loop-word
invariant-loop-word l = AfterChildren l.node l.low
