-- A filter lent down a recursion: what is known of it after several items.
use Prim.Native.Nat.{ℕ}
use mathlib.Core.Path.{◌≡◌, subst}
use mathlib.Core.List.{List}
use native.Mathlib.Omega.{arith}
use Rattle.std.specs.Prelude.{Ok, Err}
use Rattle.types.specs.declared.refusal.Refusal.{Refusal}
use Rattle.types.specs.declared.Counters.{Counters}
use Rattle.node_filter.specs.Inner.Filter.{CoversLent}
use Rattle.recursion.specs.Inner.Work.{CoversRun}

module _ {w s f : List ℕ} where
  -- after a refusal nothing is said of it
  pub covers_stopped : {e : Refusal} → CoversRun w s (Err e) f
  covers_stopped = record { is = λ d q. let z : ◌≡◌ {A = ℕ} 0 1 = cc in absurd (omega arith) }

  -- all items are done
  pub covers_went : {c : Counters} → CoversLent w s c f → CoversRun w s (Ok c) f
  covers_went {c} C = record { is = λ d q. let e : c ≡ d = cc in subst (λ (k : Counters). CoversLent w s k f) e C }
