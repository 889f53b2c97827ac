-- What the functions inside `write_sheet` ask and answer.
use Rattle.std.specs.Prelude.{ℕ, ◌+◌, ◌*◌, min, ◌≡◌, Bool, List, ◌++◌, length, leb}
use Rattle.types.specs.Out.{Out, ◌>>=◌}
use Rattle.types.specs.Arena.{Arena}
use Rattle.types.specs.Memory.{Holds}
use Rattle.types.specs.declared.Counters.{Counters}
use Rattle.names.specs.Table.{Name, split, IsTable}
use Rattle.node_store.specs.Inner.Stored.{Lent}
use Rattle.walks.specs.Asked.{asking}
use Rattle.sheet_writing.specs.Bytes.{opening_bytes, words_bytes}
use Rattle.sheet_writing.specs.Reply.{bytes_with, fitting, reply_of, left}

-- does a sheet with so many bytes of its table and so many words fit?
pub record FitsBytes (table words lent : ℕ) (r : Bool) : Type 0 where
  pub is : r ≡ leb (6 + table + 4 * words) (min lent 65536)

-- these three, one behind another, are written, or 9 is answered
pub record WritesParts (t ws : List ℕ) (names nodes root : ℕ) (b b' : List ℕ) (r : Out ℕ) : Type 0 where
  pub is : left r b' ≡ reply_of b (fitting b (opening_bytes names nodes root ++ t ++ words_bytes ws))

-- a table of so many names, and memory that holds some arena
pub record Known (t w s : List ℕ) (c : Counters) (count : ℕ) : Type 0 where
  pub names : List Name
  pub table : IsTable t names
  pub many : count ≡ length names
  pub lent : Lent w s c

-- the sheet of the root, in any arena that memory holds
pub record WritesRoot (t w s : List ℕ) (c : Counters) (root : ℕ) (b b' : List ℕ) (r : Out ℕ) : Type 0 where
  pub is : (table : ℕ) (a : Arena) → Holds table w s c a → left r b' ≡ reply_of b (asking (bytes_with (split t)) root a >>= fitting b)
