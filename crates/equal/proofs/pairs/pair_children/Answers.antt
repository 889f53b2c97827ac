use Rattle.equal.proofs.Pairing.{giving_fit, giving_clash, giving_more}
use Rattle.equal.proofs.pairs.pair_children.Goals as goal

pub pair-requires : goal.pair-requires
pair-requires c = search giving_fit

pub returns-then-not-pair : goal.returns-then-not-pair
returns-then-not-pair c = search giving_clash

pub loop-i-preserved : goal.loop-i-preserved
loop-i-preserved c = search giving_more
