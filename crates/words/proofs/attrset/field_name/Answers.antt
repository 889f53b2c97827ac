use borrow.Author.Rules.{rules}
use Rattle.words.specs.Words.{field_name}
use Rattle.words.proofs.attrset.field_name.Goals as goal

pub returns : goal.returns
unfolding field_name
returns c = search rules
