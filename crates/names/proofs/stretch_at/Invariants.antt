-- `stretch_at` finds where the text of name k lies. The loop's invariant: the names from k on are those from `left` on of the bytes from `at` on.
use Prim.Native.Nat.{◌-◌}
use lib.ListN.{length}
use Rattle.names.proofs.Walking.{Walk}
use Rattle.names.proofs.stretch_at.Given as goal

abbrev pub invariant-loop-at : goal.invariant-loop-at
invariant-loop-at l = Walk l.table l.k l.at l.left

abbrev pub decreases-loop-at : goal.decreases-loop-at
decreases-loop-at l = length l.table - l.at
