-- A turned sign is the other one.
use Rattle.walks.proofs.Additions.{flag_turned, flag_kept}
use Rattle.walks.proofs.signs.sign_after.Goals as goal

pub returns-then-turn : goal.returns-then-turn
returns-then-turn c = search flag_turned

pub returns : goal.returns
returns c = search flag_kept
