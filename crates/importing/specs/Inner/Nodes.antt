-- What the functions of the recursion ask and answer, besides what all recursions do.
use Rattle.std.specs.Prelude.{ℕ, ◌<◌, ◌≡◌, true, false, List, length, get_or, take}
use Rattle.types.specs.Out.{Out}
use Rattle.types.specs.Node.{node, tag, children, below}
use Rattle.types.specs.Arena.{Arena, at}
use Rattle.types.specs.Memory.{Holds}
use Rattle.types.specs.Reply.{reply_of}
use Rattle.types.specs.declared.Counters.{Counters}
use Rattle.node_store.specs.Intern.{intern, left}
use Rattle.importing.specs.Import.{renamed, lacks}
use Rattle.importing.specs.Inner.Names.{by_map, Numbering}

-- the source is the arena that this memory holds, under a table of its own; the map has numbers of the target's table for its names.
-- What the target holds is free
pub record Foreign (ks w s : List ℕ) (c : Counters) (table : ℕ) (u a : Arena) : Type 0 where
  pub own : ℕ
  pub holds : Holds own w s c u
  pub long : length ks ≡ 4096
  pub numbering : Numbering (by_map ks) table

-- the map lacks no name of the type of node n
pub record Complete (ks w s : List ℕ) (c : Counters) (n : ℕ) : Type 0 where
  pub is : (own : ℕ) (u : Arena) → Holds own w s c u → lacks (by_map ks) u n ≡ false

-- nor of the first `count` items
pub record AllComplete (ks w s : List ℕ) (c : Counters) (items : List ℕ) (count : ℕ) : Type 0 where
  pub each : (i : ℕ) → i < count → Complete ks w s c (get_or items i 0)

-- the source has a node n, and the first `count` items are as many numbers of the target's nodes as that node has children
pub record ImportReady (ks w s : List ℕ) (c : Counters) (n : ℕ) (items : List ℕ) (count : ℕ) (tw ts : List ℕ) (d : Counters) : Type 0 where
  pub table : ℕ
  pub source : Arena
  pub target : Arena
  pub beside : Foreign ks w s c table source target
  pub to : Holds table tw ts d target
  pub inside : n < c.nodes
  pub long : length items ≡ 65
  pub count_is : count ≡ length (children (at source n))
  pub low : below d.nodes (take count items) ≡ true

-- the answer, and the target's memory after, are those of interning the source's node with these children, its names renamed
pub record Imports (ks w s : List ℕ) (c : Counters) (n : ℕ) (items : List ℕ) (count : ℕ) (tw ts : List ℕ) (d : Counters) (tw' ts' : List ℕ)
    (r : Out (ℕ × Counters)) : Type 0 where
  pub is : (table : ℕ) (u a : Arena) → Foreign ks w s c table u a → Holds table tw ts d a
      → left d r tw' ts'
      ≡ reply_of tw ts d (intern (length tw) (length ts) (node (renamed (by_map ks) (tag (at u n))) (take count items)) a)
