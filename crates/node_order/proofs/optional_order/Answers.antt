use Rattle.node_order.proofs.Optionals.{facing_start, facing_told, facing_more, facing_longer, facing_shorter, facing_done}
use Rattle.node_order.proofs.optional_order.Goals as goal

pub loop-i-init : goal.loop-i-init
loop-i-init c = search facing_start

pub returns-then-j-f : goal.returns-then-j-f
returns-then-j-f c = search facing_longer

pub returns-then-j-f-2 : goal.returns-then-j-f-2
returns-then-j-f-2 c = search facing_shorter

pub returns-else-j-f-2 : goal.returns-else-j-f-2
returns-else-j-f-2 c = search facing_done

pub returns-then-is_ne : goal.returns-then-is_ne
returns-then-is_ne c = search facing_told

pub loop-i-preserved : goal.loop-i-preserved
loop-i-preserved c = search facing_more
