-- What the functions that add a node ask and answer.
use Rattle.std.specs.Prelude.{ℕ, ◌+◌, ◌≤◌, ◌≡◌, List, length, Result, None}
use Rattle.std.proofs.Math.Seq.{paste}
use Rattle.types.specs.Node.{Node, IsNode}
use Rattle.types.specs.Arena.{Arena}
use Rattle.types.specs.Memory.{Holds}
use Rattle.types.specs.Reply.{reply_of}
use Rattle.types.specs.declared.refusal.Refusal.{Refusal}
use Rattle.types.specs.declared.Counters.{Counters}
use Rattle.node_store.specs.Inner.Stored.{FoundIn}
use Rattle.node_store.specs.Intern.{intern, left}

-- the words of a node have room from a place on
pub record Room (w : List ℕ) (at : ℕ) (ws : List ℕ) : Type 0 where
  pub fits : at + length ws ≤ length w

-- they stand there, and no other word is changed
pub record Pasted (w : List ℕ) (at : ℕ) (ws : List ℕ) (w' : List ℕ) : Type 0 where
  pub is : w' ≡ paste w at ws (length ws)

-- memory that holds some arena, and words of a node that may be added to it
pub record Fresh (w s : List ℕ) (c : Counters) (ws : List ℕ) : Type 0 where
  pub table : ℕ
  pub view : Arena
  pub holds : Holds table w s c view
  pub node : Node
  pub is : IsNode table (length view) ws node

-- a search for them finds nothing
pub record Absent (w s : List ℕ) (c : Counters) (ws : List ℕ) : Type 0 where
  pub is : FoundIn w s c ws None

-- the answer, and memory after, are the definition's
pub record Interns (w s : List ℕ) (c : Counters) (ws w' s' : List ℕ) (r : Result (ℕ × Counters) Refusal) : Type 0 where
  pub is : (table : ℕ) (a : Arena) (x : Node) → Holds table w s c a → IsNode table (length a) ws x
      → left c r w' s' ≡ reply_of w s c (intern (length w) (length s) x a)

-- memory that holds some arena under a table of so many names
pub record Under (table : ℕ) (w s : List ℕ) (c : Counters) : Type 0 where
  pub view : Arena
  pub holds : Holds table w s c view
