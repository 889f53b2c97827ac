-- Which sets of nodes the walks give, in any arena that memory holds.
use Rattle.std.specs.Prelude.{ℕ, ◌<◌, ◌≡◌, List, true}
use Rattle.types.specs.Arena.{Arena}
use Rattle.types.specs.Memory.{Holds}
use Rattle.types.specs.declared.Counters.{Counters}
use Rattle.bits.specs.Bits.{has}
use Rattle.walks.specs.Reach.{reaches}
use Rattle.walks.specs.Removable.{OneSigned}

-- the set r holds exactly the nodes reachable from the root, in any arena that memory holds
pub record ReachIn (w s : List ℕ) (c : Counters) (root : ℕ) (r : List ℕ) : Type 0 where
  pub is : (table : ℕ) (a : Arena) → Holds table w s c a → (u : ℕ) → u < 4096 → has r u ≡ reaches a root u

-- the set r holds exactly the nodes with places of one sign
pub record OneSignedSet (a : Arena) (root : ℕ) (r : List ℕ) : Type 0 where
  pub sound : (u : ℕ) → has r u ≡ true → OneSigned a root u
  pub complete : (u : ℕ) → OneSigned a root u → has r u ≡ true

-- in any arena that memory holds
pub record OneSignedIn (w s : List ℕ) (c : Counters) (root : ℕ) (r : List ℕ) : Type 0 where
  pub is : (table : ℕ) (a : Arena) → Holds table w s c a → OneSignedSet a root r
