-- What the inner functions ask and answer.
use Rattle.std.specs.Prelude.{ℕ, ◌≤◌, ◌≡◌, List, length, Ok}
use Rattle.types.specs.Arena.{Arena}
use Rattle.types.specs.Memory.{Holds}
use Rattle.types.specs.Reply.{rooted}
use Rattle.types.specs.declared.Counters.{Counters}
use Rattle.node_store.specs.Inner.Stored.{InRange}
use Rattle.compact.specs.Compact.{limited, compacted, empty, left}
use Rattle.compact.specs.declared.Compacted.{Compacted}

-- the source has the root, and the target keeps the limits
pub record ClearReady (w s : List ℕ) (c : Counters) (root : ℕ) (tw ts : List ℕ) : Type 0 where
  pub range : InRange w s c root
  pub few_words : length tw ≤ 16384
  pub few_starts : length ts ≤ 4096

pub record CompactsCleared (w s : List ℕ) (c : Counters) (root : ℕ) (tw ts tw' ts' : List ℕ) (r : Compacted) : Type 0 where
  pub is : (table : ℕ) (u : Arena) → Holds table w s c u → left r tw' ts' ≡ compacted root tw ts empty (Ok u)

pub record CompactsLent (w s : List ℕ) (c : Counters) (root : ℕ) (tw ts : List ℕ) (d : Counters) (tw' ts' : List ℕ)
    (r : Compacted) : Type 0 where
  pub is : (table : ℕ) (u : Arena) → Holds table w s c u → left r tw' ts' ≡ compacted root tw ts d (limited tw ts (rooted root Ok u))
