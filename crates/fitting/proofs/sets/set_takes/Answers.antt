-- No field may be missing, and each must fit.
use Rattle.fitting.proofs.SetFits.{some_missing, all_there}
use Rattle.fitting.proofs.sets.set_takes.Goals as goal

pub returns-then-not-none_missing : goal.returns-then-not-none_missing
returns-then-not-none_missing c = search some_missing

pub returns : goal.returns
returns c = search all_there
