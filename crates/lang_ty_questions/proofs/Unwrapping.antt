-- What `unwrap_named` answers is below 4,096, so that a host is told it in 32 bits.
use Prim.Native.Nat.{ℕ}
use mathlib.Core.Path.{◌≡◌, sym}
use mathlib.Core.List.{List}
use native.Mathlib.Omega.{arith}
use mir.Syntax.{w32}
use mir.Val.{Fits}
use Rattle.std.specs.Prelude.{Ok}
use Rattle.types.specs.declared.Counters.{Counters}
use Rattle.walks.specs.Asked.{ask_reply}
use Rattle.questions.specs.Named.{unwrap_named}
use Rattle.questions.proofs.Unwrapping.{unwrapped_small}

pub unwrapped_fits : (t w s : List ℕ) (c : Counters) (root n : ℕ) → Ok n ≡ ask_reply unwrap_named t w s c root → Fits w32 n
unwrapped_fits t w s c root n e = let h = unwrapped_small t w s c root n (sym e) in record { fits = omega arith }
