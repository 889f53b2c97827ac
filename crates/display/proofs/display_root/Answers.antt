-- 6 for a root past the last node; else its text.
use Rattle.display.proofs.Replies.{root_six, root_text}
use Rattle.display.proofs.display_root.Goals as goal

pub returns-then-wide-c : goal.returns-then-wide-c
returns-then-wide-c c = search root_six

pub returns : goal.returns
returns c = search root_text
