use borrow.Author.Rules.{rules}
use Rattle.words.specs.Words.{field_word}
use Rattle.words.proofs.Words.{renewed_is}
use Rattle.words.proofs.attrset.renewed.Goals as goal

pub overflow_add-result : goal.overflow_add-result
unfolding field_word
overflow_add-result c = search rules

pub returns : goal.returns
returns c = search renewed_is
