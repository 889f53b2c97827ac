-- The invariant: the first i words behind the head are renewed.
use Rattle.sheet_reading.proofs.Renewing.{Renewing}
use Rattle.sheet_reading.proofs.nodes.renew_node.Given as goal

abbrev pub invariant-loop-i : goal.invariant-loop-i
invariant-loop-i l = Renewing l.initial.node l.count l.fields l.node l.i
