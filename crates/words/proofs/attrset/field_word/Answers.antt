use borrow.Author.Rules.{rules}
use Rattle.words.specs.Words.{field_word}
use Rattle.words.proofs.attrset.field_word.Goals as goal

pub returns : goal.returns
unfolding field_word
returns c = search rules
