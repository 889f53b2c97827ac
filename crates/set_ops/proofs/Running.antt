-- The run over the type of a root: it begins with an empty cache, and the arena is its own source.
use Rattle.types.specs.Out.{Out}
use Prim.Native.Nat.{ℕ, ◌<◌}
use mathlib.Core.List.{List}
use native.Mathlib.Omega.{arith}
use lib.ListN.{length, replicate}
use Rattle.types.specs.Arena.{Arena, here}
use Rattle.types.specs.Memory.{Holds}
use Rattle.types.specs.declared.Counters.{Counters}
use Rattle.node_store.specs.Inner.Stored.{InRange}
use Rattle.recursion.specs.Inner.Work.{Grown, Ready, Does}
use Rattle.recursion.specs.Inner.Hosted.{Works}
use Rattle.recursion.proofs.Leading.{leads_once}
use Rattle.recursion.proofs.Remembering.{cache_none}
use Rattle.set_op_lists.specs.SetOps.{normalize, normalize_set_ops}

module _ {w s : List ℕ} {c : Counters} {root : ℕ} (P : InRange w s c root) where
  inside : {table : ℕ} {a : Arena} → Holds table w s c a → root < length a
  inside H = omega (arith, P.inside, H.nodes)

  pub run_ready : Ready normalize Grown w s c root (replicate 4096 0)
  run_ready =
      let L = P.lent in
      record { table = L.table; source = L.view; view = L.view; holds = L.holds; beside = here; inside = inside L.holds; cache = cache_none }

  pub run_made : {w' s' entries : List ℕ} {r : Out (ℕ × Counters)} → Does normalize Grown w s c root (replicate 4096 0) w' s' entries r → Works normalize_set_ops w s c root w' s' r
  unfolding normalize_set_ops
  run_made D = record { is = λ table a H. leads_once (D.is table a a H here (inside H) cache_none) }
