-- What is shown of these definitions beyond the contracts. A statement with parameters holds for all of them.
use Rattle.std.specs.Prelude.{ℕ, ◌<◌, ◌≡◌, true, List, ◌++◌, length, Ok}
use Rattle.types.specs.Node.{Node, well}
use Rattle.types.specs.Arena.{Arena, at, Ext}
use Rattle.types.specs.Memory.{flat, heads, words_of, starts_of, counters_of, Holds}
use Rattle.types.specs.declared.Counters.{Counters}
use Rattle.node_store.specs.Intern.{intern}

-- interning x has made b of the arena a: old nodes keep their numbers, their words and their starts, and the number answered is
-- the node's (01, "arena")
pub record InternedIn (x : Node) (a : Arena) (n : ℕ) (b : Arena) : Type 0 where
  pub old : Ext a b
  pub added_words : List ℕ
  pub words : flat b ≡ flat a ++ added_words
  pub added_starts : List ℕ
  pub starts : heads b ≡ heads a ++ added_starts
  pub inside : n < length b
  pub node : at b n ≡ x

-- every finished interning has
abbrev pub InternDone : Type 0
InternDone = (words starts : ℕ) (x : Node) (a : Arena) (n : ℕ) (b : Arena) → intern words starts x a ≡ Ok (n, b) → InternedIn x a n b

-- memory that held a then holds b
abbrev pub InternHolds : Type 0
InternHolds =
    (table : ℕ) (w s : List ℕ) (c : Counters) (x : Node) (a : Arena) (n : ℕ) (b : Arena) → Holds table w s c a
    → well table (length a) x ≡ true → intern (length w) (length s) x a ≡ Ok (n, b)
    → Holds table (words_of (length w) b) (starts_of (length s) b) (counters_of b) b
