use borrow.Author.Rules.{rules}
use Rattle.fix_values.proofs.Passing.{all_below}
use Rattle.fix_values.proofs.elements_good.Goals as goal

pub returns : goal.returns
returns c = all_below _ _ _ (search rules)
