use Rattle.questions.proofs.NameWalks.{down_less, down_range, down_more, down_done}
use Rattle.questions.proofs.named.stands_for.Goals as goal

pub kind_at-kind-requires-in-loop-kind : goal.kind_at-kind-requires-in-loop-kind
kind_at-kind-requires-in-loop-kind c = down_range c.loop-kind.invariant c.loop-kind-test.true c.first_child-n.ensures

pub loop-kind-smaller : goal.loop-kind-smaller
loop-kind-smaller c = search down_less

pub loop-kind-preserved : goal.loop-kind-preserved
loop-kind-preserved c = search down_more

pub returns : goal.returns
returns c = search down_done
