-- The invariant: the passes made have taken their types, and those to come are as many as the definition has left.
use Prim.Native.Nat.{◌-◌}
use Rattle.node_filter.specs.Inner.Filter.{CoversLent}
use Rattle.simplify.proofs.Sequences.{PassTurn}
use Rattle.simplify.proofs.more_passes.Given as goal

abbrev pub invariant-loop : goal.invariant-loop
invariant-loop l = PassTurn l.initial.words l.initial.starts l.initial.last l.root l.most l.made l.words l.starts l.ty l.last l.count (l.most - l.counter) × CoversLent l.words l.starts l.last l.filter
