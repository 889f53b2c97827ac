-- Lengths, heads, and then a number of the nodes' own or their fields.
use Rattle.equal.proofs.SameNodes.{lengths_differ, heads_differ, own_told, fields_told}
use Rattle.equal.proofs.node_data.same_data.Goals as goal

pub returns-then-a-b : goal.returns-then-a-b
returns-then-a-b c = search lengths_differ

pub returns-then-a-b-2 : goal.returns-then-a-b-2
returns-then-a-b-2 c = search heads_differ

pub returns-then-kind-lt-LIST : goal.returns-then-kind-lt-LIST
returns-then-kind-lt-LIST c = search own_told

pub returns : goal.returns
returns c = search fields_told
