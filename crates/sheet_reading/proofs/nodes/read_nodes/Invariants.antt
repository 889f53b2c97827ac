-- The invariant: memory holds the nodes read so far, which are in the filter, and those left to read go on from there.
use Prim.Native.Nat.{◌-◌}
use Rattle.sheet_reading.proofs.Storing.{Turn}
use Rattle.sheet_reading.proofs.nodes.read_nodes.Given as goal

abbrev pub invariant-loop : goal.invariant-loop
invariant-loop l =
    Turn l.layout l.bytes l.first l.initial.words l.initial.starts l.names l.count l.words l.starts l.at l.c (l.count - l.counter) l.filter
