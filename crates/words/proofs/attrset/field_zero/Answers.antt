use borrow.Author.Rules.{rules}
use Rattle.words.specs.Words.{field_zero}
use Rattle.words.proofs.attrset.field_zero.Goals as goal

pub returns : goal.returns
unfolding field_zero
returns c = search rules
