-- What the functions below the calls answer, in memory that holds some arena.
use Rattle.std.specs.Prelude.{ℕ, ◌≡◌, List, length, Result}
use Rattle.types.specs.Arena.{Arena}
use Rattle.types.specs.Memory.{Holds}
use Rattle.types.specs.Reply.{reply_of}
use Rattle.types.specs.declared.refusal.Refusal.{Refusal}
use Rattle.std.specs.declared.cmp.Ordering.{Ordering}
use Rattle.types.specs.declared.Counters.{Counters}
use Rattle.node_store.specs.Intern.{left}
use Rattle.arena.specs.Intern.{interning}
use Rattle.arena.specs.Compare.{comparing}

-- the answer for any words, and memory after, are the definition's
pub record InternsWords (table : ℕ) (w s : List ℕ) (c : Counters) (ws w' s' : List ℕ) (r : Result (ℕ × Counters) Refusal) : Type 0 where
  pub is : (a : Arena) → Holds table w s c a → left c r w' s' ≡ reply_of w s c (interning (length w) (length s) ws table a)

-- the answer in memory that holds some arena
pub record ComparesIn (w s : List ℕ) (c : Counters) (m n : ℕ) (r : Result Ordering Refusal) : Type 0 where
  pub is : (table : ℕ) (a : Arena) → Holds table w s c a → r ≡ comparing m n a
