-- `node_fault` tests the head and its count, and hands the rest on.
use Rattle.node_faults.proofs.Answers.{node_head, node_count, node_body}
use Rattle.node_faults.proofs.node_fault.Goals as goal

pub returns-then-not-head_fits : goal.returns-then-not-head_fits
returns-then-not-head_fits c = search node_head

pub returns-then-body-count : goal.returns-then-body-count
returns-then-body-count c = search node_count

pub returns : goal.returns
returns c = search node_body
