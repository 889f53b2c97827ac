use Rattle.questions.proofs.Sharing.{sharing_start, sharing_row, sharing_found, sharing_more, sharing_done}
use Rattle.questions.proofs.lambdas.shares.Goals as goal

pub loop-n-init : goal.loop-n-init
loop-n-init c = search sharing_start

pub seen_before-requires : goal.seen_before-requires
seen_before-requires c = search sharing_row

pub returns-then-seen_before : goal.returns-then-seen_before
returns-then-seen_before c = search sharing_found

pub loop-n-preserved : goal.loop-n-preserved
loop-n-preserved c = search sharing_more

pub returns : goal.returns
returns c = search sharing_done
