-- A root past the last node is refused; a refused run is taken back.
use Rattle.import.proofs.Hosts.{no_root, import_finished, import_stopped}
use borrow.Author.Rules.{rules}
use Rattle.import.proofs.import_lent.Goals as goal

pub returns-then-wide-c : goal.returns-then-wide-c
returns-then-wide-c c = search no_root

pub returns-in_default : goal.returns-in_default
returns-in_default c = search import_finished

pub returns : goal.returns
returns c = import_stopped c.wide.ensures (search rules) c.import_in-r.ensures c.in-Err.is c.take_back_nodes.ensures (search rules) (search rules)
