use Rattle.equal.proofs.Sweeps.{root_partner, root_place, root_small, sweep_start, sweep_refuted, sweep_more, sweep_done}
use Rattle.equal.proofs.pairs.sweep.Goals as goal

pub overflow_cast-partners : goal.overflow_cast-partners
overflow_cast-partners c = search root_partner

pub offset_bounds-partners-left_root : goal.offset_bounds-partners-left_root
offset_bounds-partners-left_root c = search root_place

pub bounds-partners-left_root : goal.bounds-partners-left_root
bounds-partners-left_root c = search root_small

pub loop-n-init : goal.loop-n-init
loop-n-init c = search sweep_start

pub returns-then-not-visit : goal.returns-then-not-visit
returns-then-not-visit c = search sweep_refuted

pub loop-n-preserved : goal.loop-n-preserved
loop-n-preserved c = search sweep_more

pub returns : goal.returns
returns c = search sweep_done
