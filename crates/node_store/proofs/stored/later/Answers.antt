use Rattle.node_store.specs.Inner.Stored.{kept, taken}
use borrow.Author.Rules.{rules}
use Rattle.node_store.proofs.stored.later.Goals as goal

pub returns-then-low-next : goal.returns-then-low-next
returns-then-low-next c = taken (search rules)

pub returns : goal.returns
returns c = kept (search rules)
