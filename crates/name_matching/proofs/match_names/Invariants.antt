-- The invariant: the names passed are matched.
use Prim.Native.Nat.{◌+◌, ◌-◌}
use lib.ListN.{length}
use Rattle.name_matching.specs.Inner.{Read}
use Rattle.name_matching.proofs.match_names.Given as goal

abbrev pub invariant-loop-r : goal.invariant-loop-r
invariant-loop-r l = Read l.left l.right l.names l.r

abbrev pub decreases-loop-r : goal.decreases-loop-r
decreases-loop-r l = length l.left - l.r.left_at + (length l.right - l.r.right_at)
