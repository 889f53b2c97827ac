use borrow.Author.Rules.{rules}
use Rattle.std.proofs.iter.Serving.{serving}
use Rattle.fitting.proofs.Held.{all_each, element_pair}
use Rattle.fitting.proofs.taken.list_takes.Goals as goal

pub all-requires-clause-callable : goal.all-requires-clause-callable
all-requires-clause-callable c = grind (serving, element_pair c.requires)

pub returns : goal.returns
returns c = all_each _ _ _ (search rules)
