-- Which children of a node a pass simplifies: what the functions ask and answer.
use Rattle.std.specs.Prelude.{ℕ, suc, ◌<◌, ◌≤◌, ◌≡◌, Bool, true, false, List, [], ◌∷◌, ◌++◌, length, take}
use Rattle.types.specs.Node.{var, tag, children}
use Rattle.types.specs.Arena.{Arena, at}
use Rattle.types.specs.Memory.{Holds}
use Rattle.types.specs.declared.Counters.{Counters}
use Rattle.bits.specs.Bits.{has}
use Rattle.simplification.specs.Pass.{no_variable, var_of, is_removable, remaining}
use Rattle.rebuilding.specs.declared.children.Children.{Children}

-- the variables that are removable: all of R, or none where they are kept
abbrev pub setting : Bool → (ℕ → Bool) → ℕ → Bool
setting true R = no_variable
setting false R = R

-- the set has the nodes below n of the variables R, and of no others: a sound arena has one node for a variable
pub record Agrees (removable : List ℕ) (R : ℕ → Bool) (a : Arena) (n : ℕ) : Type 0 where
  pub is : (u v : ℕ) → u < n → tag (at a u) ≡ var v → has removable u ≡ R v

-- the first `count` of the items are the list xs
pub record Lists (items : List ℕ) (count : ℕ) (xs : List ℕ) : Type 0 where
  pub is : take count items ≡ xs
  pub long : length items ≡ 65
  pub few : count ≤ 65

-- r says whether node m is one of the variables that the set has
pub record RemovesVar (w s : List ℕ) (c : Counters) (m : ℕ) (removable : List ℕ) (r : Bool) : Type 0 where
  pub is : (table : ℕ) (a : Arena) (R : ℕ → Bool) (n : ℕ) → Holds table w s c a → Agrees removable R a n → m < n
      → r ≡ var_of R (tag (at a m))

-- r says whether the member m is removable, for any variables that the set has
pub record Removes (w s : List ℕ) (c : Counters) (m : ℕ) (removable : List ℕ) (r : Bool) : Type 0 where
  pub is : (table : ℕ) (a : Arena) (R : ℕ → Bool) (n : ℕ) → Holds table w s c a → Agrees removable R a n → m < n → r ≡ is_removable R a m

-- the same where `keep` says that no variable is removable
pub record Drops (w s : List ℕ) (c : Counters) (m : ℕ) (removable : List ℕ) (keep r : Bool) : Type 0 where
  pub is : (table : ℕ) (a : Arena) (R : ℕ → Bool) (n : ℕ) → Holds table w s c a → Agrees removable R a n → m < n
      → r ≡ is_removable (setting keep R) a m

-- there is space for an item behind the first `count`
pub record Space (items : List ℕ) (count : ℕ) : Type 0 where
  pub long : length items ≡ 65
  pub few : count < 65

-- what a member brings to the list of those that remain
abbrev pub unless : Bool → ℕ → List ℕ
unless true m = []
unless false m = m ∷ []

-- m was put behind the first `count` items unless it is dropped, and r is how many there are now
pub record Adds (dropped : Bool) (m : ℕ) (items : List ℕ) (count : ℕ) (items' : List ℕ) (r : ℕ) : Type 0 where
  pub is : take r items' ≡ take count items ++ unless dropped m
  pub long : length items' ≡ 65
  pub few : r ≤ suc count

-- r lists the children of node n
pub record AllChildren (w s : List ℕ) (c : Counters) (n : ℕ) (r : Children) : Type 0 where
  pub is : (table : ℕ) (a : Arena) → Holds table w s c a → Lists r.items r.count (children (at a n))

-- r lists those that remain
pub record Remains (w s : List ℕ) (c : Counters) (n : ℕ) (removable : List ℕ) (keep : Bool) (r : Children) : Type 0 where
  pub is : (table : ℕ) (a : Arena) (R : ℕ → Bool) → Holds table w s c a → Agrees removable R a n
      → Lists r.items r.count (remaining (setting keep R) a (children (at a n)))
