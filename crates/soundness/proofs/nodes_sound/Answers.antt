use Rattle.soundness.proofs.Checks.{reading_start, reading_marked, reading_more, in_starts, start_fits, bad_start, bad_node, sum_fits, upto_done}
use Rattle.soundness.proofs.nodes_sound.Goals as goal

pub loop-n-init : goal.loop-n-init
loop-n-init c = search reading_start

pub offset_bounds-starts-n : goal.offset_bounds-starts-n
offset_bounds-starts-n c = search start_fits

pub bounds-starts-n : goal.bounds-starts-n
bounds-starts-n c = search in_starts

pub returns-then-wide-at : goal.returns-then-wide-at
returns-then-wide-at c = search bad_start

pub next_node-requires : goal.next_node-requires
next_node-requires c = search reading_marked

pub returns-in_default : goal.returns-in_default
returns-in_default c = search bad_node

pub overflow_add-at : goal.overflow_add-at
overflow_add-at c = search sum_fits

pub loop-n-preserved : goal.loop-n-preserved
loop-n-preserved c = search reading_more

pub returns : goal.returns
returns c = search upto_done
