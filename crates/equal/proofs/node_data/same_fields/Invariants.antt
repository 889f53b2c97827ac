-- The invariant: the field words passed are the same.
use Rattle.equal.proofs.Fields.{Same_so_far}
use Rattle.equal.proofs.node_data.same_fields.Given as goal

abbrev pub invariant-loop-i : goal.invariant-loop-i
invariant-loop-i l = Same_so_far l.names l.e l.f l.i
