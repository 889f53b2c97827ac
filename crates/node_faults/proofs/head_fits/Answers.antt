-- `head_fits` makes the tests of the definition, the flags' by the kind's number.
use Rattle.node_faults.proofs.Heads.{head_all}
use Rattle.node_faults.proofs.head_fits.Goals as goal

pub returns : goal.returns
returns c = search head_all
