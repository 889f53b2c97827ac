use Rattle.rebuilding.proofs.Exchanging.{head_there, exchange_start, word_in, item_low, exchange_more, exchange_done}
use borrow.Author.Rules.{rules}
use Rattle.rebuilding.proofs.node.exchange.Goals as goal

pub bounds-node-0 : goal.bounds-node-0
bounds-node-0 c = search head_there

pub slice_bounds-body-count : goal.slice_bounds-body-count
slice_bounds-body-count c = search (head_there, rules)

pub slice_bounds-body-start : goal.slice_bounds-body-start
slice_bounds-body-start c = search (head_there, rules)

pub loop-i-init : goal.loop-i-init
loop-i-init c = search exchange_start

pub bounds-body-i : goal.bounds-body-i
bounds-body-i c = search word_in

pub with_child-requires : goal.with_child-requires
with_child-requires c = search item_low

pub loop-i-preserved : goal.loop-i-preserved
loop-i-preserved c = search exchange_more

pub returns : goal.returns
returns c = search exchange_done
