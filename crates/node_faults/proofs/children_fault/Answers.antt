-- `children_fault` tests each word as a child word.
use Rattle.node_faults.proofs.Bodies.{children_all}
use Rattle.node_faults.proofs.children_fault.Goals as goal

pub returns : goal.returns
returns c = search children_all
