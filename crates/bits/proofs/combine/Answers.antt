use Rattle.std.proofs.Common.{rules}
use Rattle.bits.proofs.Combining.{combining_start, combining_more, combining_done}
use Rattle.bits.proofs.combine.Goals as goal

pub loop-i-init : goal.loop-i-init
loop-i-init g c = combining_start _

pub loop-i-preserved : goal.loop-i-preserved
loop-i-preserved g c = combining_more _ c.loop-i.invariant (search rules) c.f.ensures

pub returns : goal.returns
returns g c = combining_done _ c.loop-i.invariant (search rules)
