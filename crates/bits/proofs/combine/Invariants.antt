-- The invariant: the words passed are combined.
use Rattle.bits.proofs.Combining.{Combining}
use Rattle.bits.proofs.combine.Given as goal

abbrev pub invariant-loop-i : goal.invariant-loop-i
invariant-loop-i g l = Combining (goal.F-post g l.f) l.s l.t l.r l.i
