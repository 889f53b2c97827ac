-- What the inner functions of `renumber` ask and answer.
use Rattle.std.specs.Prelude.{ℕ, ◌<◌, ◌≤◌, ◌≡◌, List, length}
use Rattle.types.specs.Out.{Out}
use Rattle.types.specs.Node.{var, tag, IsNode}
use Rattle.types.specs.Arena.{Arena, at, Ext}
use Rattle.types.specs.Memory.{Holds}
use Rattle.types.specs.Reply.{reply_of}
use Rattle.types.specs.declared.Counters.{Counters}
use Rattle.node_store.specs.Inner.Stored.{Lent}
use Rattle.node_store.specs.Intern.{intern, left}
use Rattle.node_reading.specs.Inner.{KindAt}
use Rattle.renumbering.specs.Renumbered.{index, var_node}

-- work in place with a list of variables that is no longer than an arena
pub record Numbered (vars : List ℕ) (table : ℕ) (u a : Arena) : Type 0 where
  pub grown : Ext u a
  pub few : length vars ≤ 4096

-- node n is a variable
pub record VarAt (w s : List ℕ) (c : Counters) (n : ℕ) : Type 0 where
  pub lent : Lent w s c
  pub inside : n < c.nodes
  pub kind_is : KindAt w s c n 3

-- with the number r
pub record VarIs (w s : List ℕ) (c : Counters) (n r : ℕ) : Type 0 where
  pub is : (table : ℕ) (a : Arena) → Holds table w s c a → tag (at a n) ≡ var r

-- the words are those of variable v, which may stand in any arena
pub record VarWords (v : ℕ) (ws : List ℕ) : Type 0 where
  pub is : (table nodes : ℕ) → IsNode table nodes ws (var_node v)

-- the answer, and memory after, are those of interning the variable of the place in the list that the variable at node n has
pub record RenumbersVar (vars w s : List ℕ) (c : Counters) (n : ℕ) (w' s' : List ℕ) (r : Out (ℕ × Counters)) : Type 0 where
  pub is : (table : ℕ) (a : Arena) (v : ℕ) → Holds table w s c a → tag (at a n) ≡ var v
      → left c r w' s' ≡ reply_of w s c (intern (length w) (length s) (var_node (index vars v)) a)
