-- 6 for a root past the last node; else the size of the set.
use Rattle.walks.proofs.Asking.{root_out, root_in}
use Rattle.walks.proofs.Counting.{nodes_counted}
use Rattle.walks.proofs.reach.count_in.Goals as goal

pub returns-then-root-c : goal.returns-then-root-c
returns-then-root-c c = search root_out

pub returns : goal.returns
returns c = search (root_in, nodes_counted)
