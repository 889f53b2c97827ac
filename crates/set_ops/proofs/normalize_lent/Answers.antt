-- A root past the last node is refused; a refused run is taken back.
use Rattle.recursion.proofs.Hosts.{no_root, run_done, run_stopped}
use borrow.Author.Rules.{rules}
use Rattle.set_ops.proofs.normalize_lent.Goals as goal

pub returns-then-wide-c : goal.returns-then-wide-c
returns-then-wide-c c = search no_root

pub returns-in_default : goal.returns-in_default
returns-in_default c = search run_done

pub returns : goal.returns
returns c = run_stopped c.wide.ensures (search rules) c.normalize_in-r.ensures c.in-Err.is c.take_back_nodes.ensures (search rules) (search rules)
