-- The three tests are the definition.
use Rattle.fitting.proofs.Joining.{full_tests}
use Rattle.fitting.proofs.joined.starts_full.Goals as goal

pub returns : goal.returns
returns c = search full_tests
