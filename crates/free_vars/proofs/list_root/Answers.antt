-- 6 for a root past the last node; else its variables.
use Rattle.free_vars.proofs.Replies.{list_six, list_root}
use Rattle.free_vars.proofs.list_root.Goals as goal

pub returns-then-wide-c : goal.returns-then-wide-c
returns-then-wide-c c = search list_six

pub returns : goal.returns
returns c = search list_root
