-- 6 for a root past the last node; else the node that the loop ends at.
use Rattle.walks.proofs.Asking.{root_out, root_in}
use Rattle.questions.proofs.named.unwrap_in.Goals as goal

pub returns-then-root-c : goal.returns-then-root-c
returns-then-root-c c = search root_out

pub returns : goal.returns
returns c = search root_in
