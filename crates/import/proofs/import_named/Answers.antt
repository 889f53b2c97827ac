-- The cache is empty, and the filter has all nodes of the target.
use Rattle.import.proofs.Running.{run_target, run_ready, run_made}
use Rattle.import.proofs.import_named.Goals as goal

pub set_all_bits-requires-clause-lent : goal.set_all_bits-requires-clause-lent
set_all_bits-requires-clause-lent c = search run_target

pub import_node-requires-clause-ready : goal.import_node-requires-clause-ready
import_node-requires-clause-ready c = search run_ready

pub returns : goal.returns
returns c = search run_made
