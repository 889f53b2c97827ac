-- A node with other children: what the functions ask and answer.
use Rattle.std.specs.Prelude.{ℕ, ◌+◌, ◌-◌, ◌<◌, ◌≤◌, ◌≡◌, true, List, length, get_or, take}
use Rattle.words.specs.Words.{child}
use Rattle.types.specs.Out.{Out}
use Rattle.types.specs.Node.{node, tag, children, below}
use Rattle.types.specs.Arena.{Arena, at}
use Rattle.types.specs.Fault.{children_in}
use Rattle.types.specs.Memory.{Holds}
use Rattle.types.specs.Reply.{reply_of}
use Rattle.types.specs.declared.Counters.{Counters}
use Rattle.node_store.specs.Inner.Stored.{Lent}
use Rattle.node_store.specs.Intern.{intern, left}

-- a field word or a child word with another child, which stands in its lowest bits (01, "Words of the arena")
unfoldable pub with_child : ℕ → ℕ → ℕ
unfolding child
with_child w m = w - child w + m

-- the items are as many as the children in the words of a node
pub record AsMany (ws items : List ℕ) (count : ℕ) : Type 0 where
  pub long : length items ≡ 65
  pub few : count ≤ 65
  pub count_is : count ≡ length (children_in ws)

-- the items are as many as the words of a body
pub record OneEach (b items : List ℕ) (count : ℕ) : Type 0 where
  pub long : length items ≡ 65
  pub few : count ≤ 65
  pub count_is : count ≡ length b

-- the items are as many as the children, there is a first one, all are small enough, and `new` has a word for each and one for the head
pub record Exchanging (ws items : List ℕ) (count : ℕ) (new : List ℕ) : Type 0 where
  pub as_many : AsMany ws items count
  pub some : 0 < count
  pub low : below 4096 (take count items) ≡ true
  pub size : length new ≡ 66

-- `new` begins with the words, each child exchanged
pub record Exchanged (ws items : List ℕ) (count : ℕ) (new : List ℕ) : Type 0 where
  pub size : length new ≡ 66
  pub head : get_or new 0 0 ≡ get_or ws 0 0
  pub each : (j : ℕ) → j < count → get_or new (j + 1) 0 ≡ with_child (get_or ws (j + 1) 0) (get_or items j 0)

-- memory holds an arena with a node n, and the first `count` items are as many numbers of its nodes as that node has children
pub record Rebuilding (w s : List ℕ) (c : Counters) (n : ℕ) (items : List ℕ) (count : ℕ) : Type 0 where
  pub lent : Lent w s c
  pub inside : n < c.nodes
  pub long : length items ≡ 65
  pub count_is : count ≡ length (children (at lent.view n))
  pub low : below c.nodes (take count items) ≡ true

-- the answer, and memory after, are those of interning the node with these children
pub record Rebuilds (w s : List ℕ) (c : Counters) (n : ℕ) (items : List ℕ) (count : ℕ) (w' s' : List ℕ) (r : Out (ℕ × Counters)) : Type 0 where
  pub is : (table : ℕ) (a : Arena) → Holds table w s c a
      → left c r w' s' ≡ reply_of w s c (intern (length w) (length s) (node (tag (at a n)) (take count items)) a)
