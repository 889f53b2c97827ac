use Rattle.walks.proofs.Marks.{root_fits, root_row, sweep_start, sweep_more, sweep_done}
use Rattle.walks.proofs.signs.signs_of.Goals as goal

pub overflow_cast-root : goal.overflow_cast-root
overflow_cast-root c = search root_fits

pub put-requires : goal.put-requires
put-requires c = search root_row

pub loop-n-init : goal.loop-n-init
loop-n-init c = search sweep_start

pub loop-n-preserved : goal.loop-n-preserved
loop-n-preserved c = search sweep_more

pub returns : goal.returns
returns c = search sweep_done
