-- Memory read node by node: what is known of the nodes so far, and which node may come next.
use Rattle.std.specs.Prelude.{ℕ, ◌+◌, ◌≤◌, ◌≡◌, true, List, ◌∷◌, length, take, drop, Option, Some, None}
use Rattle.types.specs.Node.{Node, encode}
use Rattle.types.specs.Arena.{Arena, sound}
use Rattle.types.specs.Memory.{Holds}
use Rattle.types.specs.declared.Counters.{Counters}
use Rattle.node_filter.specs.Inner.Hash.{hash_of}
use Rattle.node_filter.specs.Inner.Filter.{Sets, Covers}
use Rattle.soundness.specs.Inner.Sound.{Limits}

-- the first n nodes are a, and lie in the first `at` words
abbrev pub Begun : ℕ → List ℕ → List ℕ → ℕ → ℕ → Arena → Type 0
Begun table w s n at a = Holds table (take at w) (take n s) (record { nodes = n; words = at }) a

pub record Passed (table : ℕ) (w s : List ℕ) (c : Counters) (n at : ℕ) : Type 0 where
  pub limits : Limits w s c
  pub view : Arena
  pub begun : Begun table w s n at view
  pub low : at ≤ c.words
  pub turn : n ≤ c.nodes

-- the nodes read so far, and their bits set in the filter
pub record Marked (table : ℕ) (w s : List ℕ) (c : Counters) (n at : ℕ) (filter : List ℕ) : Type 0 where
  pub passed : Passed table w s c n at
  pub covers : Covers filter passed.view

-- the next k words, of `used`, are a node that may follow the nodes a
pub record NextNode (table : ℕ) (w : List ℕ) (a : Arena) (at used k : ℕ) : Type 0 where
  pub node : Node
  pub words : take k (drop at w) ≡ encode node
  pub long : k ≡ length (encode node)
  pub room : at + k ≤ used
  pub good : sound table (node ∷ a) ≡ true

-- r is how many words that node takes, where there is one
pub record Next (table : ℕ) (w s : List ℕ) (c : Counters) (n at : ℕ) (r : Option ℕ) : Type 0 where
  pub found : (a : Arena) → Begun table w s n at a → (k : ℕ) → r ≡ Some k → NextNode table w a at c.words k
  pub missing : (a : Arena) → Begun table w s n at a → r ≡ None → (k : ℕ) → NextNode table w a at c.words k → ⊥

-- then its bits are set
pub record NextSets (w : List ℕ) (at : ℕ) (filter : List ℕ) (r : Option ℕ) (filter' : List ℕ) : Type 0 where
  pub is : (k : ℕ) → r ≡ Some k → Sets filter (hash_of (take k (drop at w))) filter'
