-- What is stored and answered, from an answer of `intern`.
use Rattle.std.specs.Prelude.{ℕ, Ok, Err}
use Rattle.types.specs.Out.{Out}
use Rattle.types.specs.declared.Counters.{Counters}

-- the answer without its counters
abbrev pub stored : Out (ℕ × Counters) → Out ℕ
stored (Ok (n, d)) = Ok n
stored (Err e) = Err e

-- the counters after it, where they were c: a refusal leaves them as they were
abbrev pub counters_left : Counters → Out (ℕ × Counters) → Counters
counters_left c (Ok (n, d)) = d
counters_left c (Err e) = c
