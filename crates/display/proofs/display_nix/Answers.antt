-- The print with names as the manual writes them.
use borrow.Author.Rules.{rules}
use Rattle.display.specs.Reply.{display_nix_reply}
use Rattle.display.proofs.display_nix.Goals as goal

pub returns : goal.returns
unfolding display_nix_reply
returns c = search rules
