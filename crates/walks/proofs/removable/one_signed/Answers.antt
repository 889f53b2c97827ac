-- A place of one sign only.
use Rattle.walks.proofs.OneSigns.{one_sign}
use Rattle.walks.proofs.removable.one_signed.Goals as goal

pub returns : goal.returns
returns c = search one_sign
