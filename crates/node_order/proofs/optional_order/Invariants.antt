-- `optional_order` answers by the first optional name that differs. The loop's invariant: the optional names passed are the same, and i and j are at optional fields.
use Prim.Native.Nat.{◌-◌}
use lib.ListN.{length}
use Rattle.node_order.proofs.Optionals.{Facing}
use Rattle.node_order.proofs.optional_order.Given as goal

abbrev pub invariant-loop-i : goal.invariant-loop-i
invariant-loop-i l = Facing l.e l.f l.i l.j

abbrev pub decreases-loop-i : goal.decreases-loop-i
decreases-loop-i l = length l.e - l.i
