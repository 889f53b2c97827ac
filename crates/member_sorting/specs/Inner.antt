-- What the functions that sort members ask and answer.
use Rattle.std.specs.Prelude.{ℕ, suc, ◌<◌, ◌≤◌, ◌≡◌, Bool, true, List, ◌∷◌, ◌++◌, length, take, drop}
use Rattle.types.specs.Node.{below}
use Rattle.types.specs.Arena.{Arena}
use Rattle.types.specs.Memory.{Holds}
use Rattle.types.specs.declared.Counters.{Counters}
use Rattle.node_store.specs.Inner.Stored.{Lent, InRange}
use Rattle.member_sorting.specs.Sort.{before, insert_member, sort}

-- does node m come before node n?
pub record ComesBefore (w s : List ℕ) (c : Counters) (m n : ℕ) (r : Bool) : Type 0 where
  pub is : (table : ℕ) (a : Arena) → Holds table w s c a → r ≡ before a m n

-- memory holds an arena with a node m, and all the members are nodes of it
pub record Placing (w s : List ℕ) (c : Counters) (m : ℕ) (ms : List ℕ) : Type 0 where
  pub range : InRange w s c m
  pub low : below c.nodes ms ≡ true

-- m is inserted at the place r
pub record PlaceOf (w s : List ℕ) (c : Counters) (m : ℕ) (ms : List ℕ) (r : ℕ) : Type 0 where
  pub few : r ≤ length ms
  pub is : (table : ℕ) (a : Arena) → Holds table w s c a → insert_member a m ms ≡ take r ms ++ m ∷ drop r ms

-- there is room behind the first `count` items, and the place is one of theirs or the next
pub record Gap (items : List ℕ) (place count : ℕ) : Type 0 where
  pub long : length items ≡ 64
  pub room : count < 64
  pub few : place ≤ count

-- the items from the place on went up by one; what stands at the place is left free
pub record OpensGap (items : List ℕ) (place count : ℕ) (items' : List ℕ) : Type 0 where
  pub hole : ℕ
  pub inside : place < 64
  pub long : length items' ≡ 64
  pub is : take (suc count) items' ≡ take place (take count items) ++ hole ∷ drop place (take count items)

-- memory holds an arena with a node m, and with the first `count` items, behind which there is room
pub record Inserting (w s : List ℕ) (c : Counters) (m : ℕ) (items : List ℕ) (count : ℕ) : Type 0 where
  pub placing : Placing w s c m (take count items)
  pub long : length items ≡ 64
  pub room : count < 64

-- the items have m too
pub record Inserts (w s : List ℕ) (c : Counters) (m : ℕ) (items : List ℕ) (count : ℕ) (items' : List ℕ) : Type 0 where
  pub long : length items' ≡ 64
  pub is : (table : ℕ) (a : Arena) → Holds table w s c a → take (suc count) items' ≡ insert_member a m (take count items)

-- memory holds an arena whose nodes the members are, and there is room for them
pub record Sorting (w s : List ℕ) (c : Counters) (ms items : List ℕ) : Type 0 where
  pub lent : Lent w s c
  pub low : below c.nodes ms ≡ true
  pub few : length ms ≤ 64
  pub long : length items ≡ 64

-- the first items are the members, sorted
pub record Sorts (w s : List ℕ) (c : Counters) (ms items' : List ℕ) : Type 0 where
  pub long : length items' ≡ 64
  pub is : (table : ℕ) (a : Arena) → Holds table w s c a → take (length ms) items' ≡ sort a ms
