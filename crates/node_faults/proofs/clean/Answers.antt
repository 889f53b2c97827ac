-- `clean` tests what every head has, then the words by the kind.
use Rattle.node_faults.proofs.CleanBodies.{clean_not, clean_set, clean_plain}
use Rattle.node_faults.proofs.clean.Goals as goal

pub returns-then-kind-eq-ATTR_SET : goal.returns-then-kind-eq-ATTR_SET
returns-then-kind-eq-ATTR_SET c = search clean_set

pub returns-then-not-plain-counted : goal.returns-then-not-plain-counted
returns-then-not-plain-counted c = search clean_not

pub returns : goal.returns
returns c = search clean_plain
