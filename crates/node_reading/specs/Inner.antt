-- What is asked and answered of a node, in any arena that memory holds.
use Rattle.std.specs.Prelude.{ℕ, ◌<◌, ◌≡◌, true, ◌||◌, List, get_or, eqb}
use Rattle.types.specs.Kind as kinds
use Rattle.types.specs.Kind.{disc}
use Rattle.types.specs.Node.{tag, kind, children}
use Rattle.types.specs.Arena.{Arena, at}
use Rattle.types.specs.Memory.{Holds}
use Rattle.types.specs.declared.Counters.{Counters}
use Rattle.node_store.specs.Inner.Stored.{Lent}

-- r is the kind of node n
pub record KindAt (w s : List ℕ) (c : Counters) (n r : ℕ) : Type 0 where
  pub is : (table : ℕ) (a : Arena) → Holds table w s c a → r ≡ disc (kind (tag (at a n)))

-- memory holds an arena with a lambda, a named type or `Neg` at node n
pub record ParentAt (w s : List ℕ) (c : Counters) (n : ℕ) : Type 0 where
  pub lent : Lent w s c
  pub inside : n < c.nodes
  pub number : ℕ
  pub kind : KindAt w s c n number
  pub parent : (eqb number (disc kinds.lambda) || (eqb number (disc kinds.named) || eqb number (disc kinds.neg))) ≡ true

-- r is the first child of node n
pub record FirstChild (w s : List ℕ) (c : Counters) (n r : ℕ) : Type 0 where
  pub is : (table : ℕ) (a : Arena) → Holds table w s c a → r ≡ get_or (children (at a n)) 0 0
