-- `check_node` looks for a fault only where the quick test has not told that there is none.
use Rattle.node_faults.proofs.Answers.{fault_empty, fault_none, fault_node}
use Rattle.node_faults.proofs.check_node.Goals as goal

pub returns-in_default : goal.returns-in_default
returns-in_default c = search (fault_empty, c.in_default.ensures.cases)

pub returns-then-clean : goal.returns-then-clean
returns-then-clean c = search (fault_none, c.in-Some.ensures.cases)

pub returns : goal.returns
returns c = search (fault_node, c.in-Some.ensures.cases)
