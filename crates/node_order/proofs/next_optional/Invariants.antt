-- `next_optional` finds the next optional field. The loop's invariant: none was passed.
use Rattle.node_order.proofs.Optionals.{Skipped}
use Rattle.node_order.proofs.next_optional.Given as goal

abbrev pub invariant-loop-i : goal.invariant-loop-i
invariant-loop-i l = Skipped l.fields l.from l.i
