use Rattle.names.proofs.OddBytes.{count_fits, count_more, count_done}
use Rattle.names.proofs.count_odd.Goals as goal

pub overflow_add-count : goal.overflow_add-count
overflow_add-count c = search count_fits

pub loop-byte-preserved : goal.loop-byte-preserved
loop-byte-preserved c = search count_more

pub returns : goal.returns
returns c = search count_done
