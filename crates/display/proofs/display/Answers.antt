-- The print with bare names.
use borrow.Author.Rules.{rules}
use Rattle.display.specs.Reply.{display_reply}
use Rattle.display.proofs.display.Goals as goal

pub returns : goal.returns
unfolding display_reply
returns c = search rules
