use borrow.Author.Rules.{rules}
use Rattle.words.specs.Words.{field_optional}
use Rattle.words.proofs.attrset.field_optional.Goals as goal

pub returns : goal.returns
unfolding field_optional
returns c = search rules
