-- What the functions of the recursion ask and answer, besides what all recursions do.
use Rattle.std.specs.Prelude.{ℕ, ◌<◌, ◌≡◌, true, List, length, get_or, take, Ok}
use Rattle.std.proofs.Math.Option.{none}
use Rattle.types.specs.Out.{Out}
use Rattle.types.specs.Node.{node, tag, children, below}
use Rattle.types.specs.Arena.{Arena, at, find}
use Rattle.types.specs.Memory.{Holds}
use Rattle.types.specs.Reply.{reply_of}
use Rattle.types.specs.declared.Counters.{Counters}
use Rattle.node_store.specs.Intern.{intern, left}
use Rattle.recursion.specs.Inner.Cache.{Remembers}
use Rattle.copying.specs.Theorems.{CopyOf}

-- the source is the arena that this memory holds, under the table of the target; what the target holds is free
pub record Source (w s : List ℕ) (c : Counters) (table : ℕ) (u a : Arena) : Type 0 where
  pub holds : Holds table w s c u

-- the source has a node n, and the first `count` items are as many numbers of the target's nodes as that node has children
pub record CopyReady (w s : List ℕ) (c : Counters) (n : ℕ) (items : List ℕ) (count : ℕ) (tw ts : List ℕ) (d : Counters) : Type 0 where
  pub table : ℕ
  pub source : Arena
  pub target : Arena
  pub from : Holds table w s c source
  pub to : Holds table tw ts d target
  pub inside : n < c.nodes
  pub long : length items ≡ 65
  pub count_is : count ≡ length (children (at source n))
  pub low : below d.nodes (take count items) ≡ true

-- the target has no node with the tag of the source's node n and these children
pub record CopyNew (w s : List ℕ) (c : Counters) (n : ℕ) (items : List ℕ) (count : ℕ) (tw ts : List ℕ) (d : Counters) : Type 0 where
  pub is : (table : ℕ) (u a : Arena) → Holds table w s c u → Holds table tw ts d a
      → find (node (tag (at u n)) (take count items)) a ≡ none

-- the answer, and the target's memory after, are those of interning the source's node with these children
pub record Copies (w s : List ℕ) (c : Counters) (n : ℕ) (items : List ℕ) (count : ℕ) (tw ts : List ℕ) (d : Counters) (tw' ts' : List ℕ)
    (r : Out (ℕ × Counters)) : Type 0 where
  pub is : (table : ℕ) (u a : Arena) → Holds table w s c u → Holds table tw ts d a
      → left d r tw' ts' ≡ reply_of tw ts d (intern (length tw) (length ts) (node (tag (at u n)) (take count items)) a)

-- a node of the source that has no entry has no copy in the target
pub record AllCached (w s : List ℕ) (c : Counters) (tw ts : List ℕ) (d : Counters) (entries : List ℕ) : Type 0 where
  pub is : (table : ℕ) (u a : Arena) → Holds table w s c u → Holds table tw ts d a → (n m : ℕ) → CopyOf u a n m → get_or entries n 0 ≡ 0 → ⊥

-- so it is after an answer
pub record CachedAfter (w s : List ℕ) (c : Counters) (tw ts entries : List ℕ) (r : Out (ℕ × Counters)) : Type 0 where
  pub is : (m : ℕ) (d : Counters) → r ≡ Ok (m, d) → AllCached w s c tw ts d entries

-- so it is once the answer for n is remembered
pub record CachedOnce (w s : List ℕ) (c : Counters) (n : ℕ) (tw ts entries : List ℕ) (r : Out (ℕ × Counters)) : Type 0 where
  pub is : (m : ℕ) (d : Counters) (entries' : List ℕ) → r ≡ Ok (m, d) → Remembers n m entries entries'
      → AllCached w s c tw ts d entries'

-- so it is after several nodes
pub record CachedRun (w s : List ℕ) (c : Counters) (tw ts entries : List ℕ) (r : Out Counters) : Type 0 where
  pub is : (d : Counters) → r ≡ Ok d → AllCached w s c tw ts d entries
