use Rattle.names.proofs.Comparing.{cmp_names}
use Rattle.names.proofs.compare.Goals as goal

pub returns : goal.returns
returns c = search cmp_names
