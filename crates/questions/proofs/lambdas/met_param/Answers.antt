-- A node that isn't in the set takes nothing.
use Rattle.walks.proofs.Marks.{root_small, root_fits}
use Rattle.questions.proofs.Sharing.{param_unmet}
use Rattle.questions.proofs.lambdas.met_param.Goals as goal

pub overflow_cast-n : goal.overflow_cast-n
overflow_cast-n c = search root_fits

pub test-requires : goal.test-requires
test-requires c = search root_small

pub returns : goal.returns
returns c = search param_unmet
