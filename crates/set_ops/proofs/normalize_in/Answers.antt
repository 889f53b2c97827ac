-- The recursion, from an empty cache and a filter with every node.
use mathlib.Core.Path.{refl}
use Rattle.set_ops.proofs.Running.{run_ready, run_made}
use Rattle.set_ops.proofs.normalize_in.Goals as goal

pub set_all_bits-requires-clause-filter_len : goal.set_all_bits-requires-clause-filter_len
set_all_bits-requires-clause-filter_len c = refl

pub normalize_set_ops_cached-requires-clause-ready : goal.normalize_set_ops_cached-requires-clause-ready
normalize_set_ops_cached-requires-clause-ready c = search run_ready

pub returns : goal.returns
returns c = search run_made
