use Rattle.node_filter.proofs.Filters.{first_none, first_there, first_more, first_all}
use Rattle.node_filter.proofs.set_all_bits.Goals as goal

pub loop-n-init : goal.loop-n-init
loop-n-init c = search first_none

pub node_at-requires : goal.node_at-requires
node_at-requires c = search first_there

pub loop-n-preserved : goal.loop-n-preserved
loop-n-preserved c = search first_more

pub returns : goal.returns
returns c = search first_all
