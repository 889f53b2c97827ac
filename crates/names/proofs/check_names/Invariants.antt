-- `check_names` accepts exactly the tables. The loop's invariant: the bytes are a table exactly if those from `at` on go on with it, and if the odd bytes are as many.
use Prim.Native.Nat.{◌-◌}
use lib.ListN.{length}
use Rattle.names.proofs.Checking.{Stage}
use Rattle.names.proofs.check_names.Given as goal

abbrev pub invariant-loop-at : goal.invariant-loop-at
invariant-loop-at l = Stage l.table l.from l.at l.count l.lengths

abbrev pub decreases-loop-at : goal.decreases-loop-at
decreases-loop-at l = length l.table - l.at
