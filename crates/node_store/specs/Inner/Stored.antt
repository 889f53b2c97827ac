-- What the functions that read stored nodes ask and answer. `table` is the number of names under which memory holds its arena.
use Rattle.std.specs.Prelude.{ℕ, ◌+◌, ◌<◌, ◌≡◌, Bool, true, List, length, get_or}
use Rattle.std.specs.Prelude as std
use Rattle.types.specs.Out.{option_of}
use Rattle.types.specs.Same.{same}
use Rattle.types.specs.Node.{Node, node_dec, encode, formed}
use Rattle.types.specs.Arena.{Arena, at, find}
use Rattle.types.specs.Fault.{children_in}
use Rattle.types.specs.Memory.{Holds}
use Rattle.types.specs.declared.Counters.{Counters}
use Rattle.std.specs.declared.cmp.Ordering.{Ordering}
use Rattle.node_order.specs.NodeOrder.{node_order}

-- memory that holds some arena
pub record Lent (w s : List ℕ) (c : Counters) : Type 0 where
  pub table : ℕ
  pub view : Arena
  pub holds : Holds table w s c view

-- it has a node n
pub record InRange (w s : List ℕ) (c : Counters) (n : ℕ) : Type 0 where
  pub lent : Lent w s c
  pub inside : n < c.nodes

-- r is that node's words
pub record NodeAt (w s : List ℕ) (c : Counters) (n : ℕ) (r : List ℕ) : Type 0 where
  pub is : (table : ℕ) (a : Arena) → Holds table w s c a → r ≡ encode (at a n)

-- a node is sought by words that have a head
pub record Sought (w s : List ℕ) (c : Counters) (n : ℕ) (ws : List ℕ) : Type 0 where
  pub lent : Lent w s c
  pub inside : n < c.nodes
  pub headed : 0 < length ws

-- is node n the one with these words?
pub record IsThere (w s : List ℕ) (c : Counters) (n : ℕ) (ws : List ℕ) (r : Bool) : Type 0 where
  pub is : (table : ℕ) (a : Arena) (x : Node) → Holds table w s c a → formed x ≡ true → ws ≡ encode x → r ≡ same node_dec x (at a n)

-- the higher of two numbers: one so far, or the one after m
pub data Later (low m r : ℕ) : Type 0 where
  kept : r ≡ low → Later low m r
  taken : r ≡ m + 1 → Later low m r

-- a child in a node's words, whose number is the one before r
pub record ChildBefore (ws : List ℕ) (r : ℕ) : Type 0 where
  pub index : ℕ
  pub inside : index < length (children_in ws)
  pub is : get_or (children_in ws) index 0 + 1 ≡ r

-- r is 0 or comes after a child
pub record AfterChildren (ws : List ℕ) (r : ℕ) : Type 0 where
  pub child : 0 < r → ChildBefore ws r

pub record Searched (w s : List ℕ) (c : Counters) (ws : List ℕ) : Type 0 where
  pub lent : Lent w s c
  pub headed : 0 < length ws

-- what is found is the definition's
pub record FoundIn (w s : List ℕ) (c : Counters) (ws : List ℕ) (r : std.Option ℕ) : Type 0 where
  pub is : (table : ℕ) (a : Arena) (x : Node) → Holds table w s c a → formed x ≡ true → ws ≡ encode x → option_of r ≡ find x a

-- r is how two nodes stand
pub record Ordered (w s : List ℕ) (c : Counters) (m n : ℕ) (r : Ordering) : Type 0 where
  pub is : (table : ℕ) (a : Arena) → Holds table w s c a → r ≡ node_order (at a m) (at a n)
