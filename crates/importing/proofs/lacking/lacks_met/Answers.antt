-- Two cases: the set has the node, or not.
use Rattle.walks.proofs.Marks.{root_small, root_fits}
use Rattle.importing.proofs.Searching.{node_there, unmet, met_told}
use Rattle.importing.proofs.lacking.lacks_met.Goals as goal

pub overflow_cast-n : goal.overflow_cast-n
overflow_cast-n c = search root_fits

pub test-requires : goal.test-requires
test-requires c = search root_small

pub returns-then-not-test : goal.returns-then-not-test
returns-then-not-test c = search unmet

pub lacks_own-requires-clause-node_nonzero : goal.lacks_own-requires-clause-node_nonzero
lacks_own-requires-clause-node_nonzero c = search node_there

pub returns : goal.returns
returns c = search met_told
