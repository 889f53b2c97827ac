-- All pairs, from node 0 up.
use Rattle.std.specs.Prelude.{ℕ, ◌+◌, ◌*◌, ◌/◌, ◌<◌, ◌≤◌, ◌≡◌, Bool, List, length, get_or}
use Rattle.types.specs.Arena.{Arena}
use Rattle.types.specs.Memory.{Holds}
use Rattle.types.specs.declared.Counters.{Counters}
use Rattle.node_store.specs.Inner.Stored.{InRange}
use Rattle.fix_values.specs.Fix.{Fix}
use Rattle.fix_values.specs.Inner.{FixIn}
use Rattle.fitting.specs.Fits.{fits}

-- how many words of 64 bits a row has for so many values
abbrev pub row_width : ℕ → ℕ
row_width count = (count + 63) / 64

-- there are so many words from `at` on, and the row has as many
pub record Storing (ps : List ℕ) (at : ℕ) (row : List ℕ) (width : ℕ) : Type 0 where
  pub room : at + width ≤ length ps
  pub long : length row ≡ 16
  pub narrow : width ≤ 16

-- the words from `at` on are the row's, and the others are as they were
pub record Stores (ps : List ℕ) (at : ℕ) (row : List ℕ) (width : ℕ) (ps' : List ℕ) : Type 0 where
  pub long : length ps' ≡ length ps
  pub new : (i : ℕ) → i < width → get_or ps' (at + i) 0 ≡ get_or row i 0
  pub before : (k : ℕ) → k < at → get_or ps' k 0 ≡ get_or ps k 0

-- memory holds an arena with this root, and the words a fix of so many values
pub record Decidable (w s : List ℕ) (c : Counters) (root : ℕ) (fix places : List ℕ) (count : ℕ) : Type 0 where
  pub range : InRange w s c root
  pub table : ℕ
  pub view : Fix
  pub holds : FixIn table fix places count view
  pub some_value : 0 < count
  pub few : count ≤ 1024

-- the same, and rows for all nodes up to the root
pub record Rowed (w s : List ℕ) (c : Counters) (root : ℕ) (fix places : List ℕ) (count : ℕ) (ps : List ℕ) : Type 0 where
  pub decidable : Decidable w s c root fix places count
  pub rows : (root + 1) * row_width count ≤ length ps

-- r says whether the fix fits the type of the root, whatever arena and fix memory holds
pub record Decides (w s : List ℕ) (c : Counters) (root : ℕ) (fix places : List ℕ) (count : ℕ) (r : Bool) : Type 0 where
  pub is : (table : ℕ) (a : Arena) → Holds table w s c a → (t : ℕ) (f : Fix) → FixIn t fix places count f → r ≡ fits f a root
