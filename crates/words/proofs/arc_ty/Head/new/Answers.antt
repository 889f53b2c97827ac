use borrow.Author.Rules.{rules}
use Rattle.words.specs.Words.{head_word}
use Rattle.words.proofs.arc_ty.Head.new.Goals as goal

pub returns : goal.returns
unfolding head_word
returns c = search rules
