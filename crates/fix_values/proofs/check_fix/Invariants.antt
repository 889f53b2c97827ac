-- The invariant: what is left of the words decides, and the values read lie at their places.
use Prim.Native.Nat.{◌-◌}
use lib.ListN.{length}
use Rattle.fix_values.proofs.Checking.{Checked}
use Rattle.fix_values.proofs.check_fix.Given as goal

abbrev pub invariant-loop-at : goal.invariant-loop-at
invariant-loop-at l = Checked l.names l.fix l.places l.n l.at

abbrev pub decreases-loop-at : goal.decreases-loop-at
decreases-loop-at l = length l.fix - l.at
