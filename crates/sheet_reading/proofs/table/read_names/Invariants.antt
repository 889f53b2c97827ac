-- The invariant: what is left to read goes on from the names read so far, the last of which is `bytes[from..at]`.
use Prim.Native.Nat.{◌-◌}
use Rattle.sheet_reading.proofs.Tabling.{Turn}
use Rattle.sheet_reading.proofs.table.read_names.Given as goal

abbrev pub invariant-loop : goal.invariant-loop
invariant-loop l = Turn l.bytes l.first l.count l.from l.at (l.count - l.counter)
