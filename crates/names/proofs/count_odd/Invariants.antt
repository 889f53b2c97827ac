-- The invariant: the odd bytes passed are counted.
use Rattle.names.proofs.OddBytes.{Counted}
use Rattle.names.proofs.count_odd.Given as goal

abbrev pub invariant-loop-byte : goal.invariant-loop-byte
invariant-loop-byte l = Counted l.bytes l.count l.byte-index
