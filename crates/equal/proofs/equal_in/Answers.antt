-- 6 for either root, then what the loop says.
use Rattle.equal.proofs.Replying.{left_out, right_out, roots_in}
use Rattle.equal.proofs.equal_in.Goals as goal

pub returns-then-left_root-left : goal.returns-then-left_root-left
returns-then-left_root-left c = search left_out

pub returns-then-right_root-right : goal.returns-then-right_root-right
returns-then-right_root-right c = search right_out

pub returns : goal.returns
returns c = search roots_in
