-- What the functions below the call answer.
use Rattle.std.specs.Prelude.{ℕ, List, ◌≡◌}
use Rattle.types.specs.Out.{Out}
use Rattle.types.specs.Arena.{Arena}
use Rattle.types.specs.Memory.{Holds}
use Rattle.types.specs.declared.Counters.{Counters}
use Rattle.names.specs.Table.{split}
use Rattle.spelling.specs.declared.Spelling.{Spelling}
use Rattle.text_writing.specs.Text.{type_text}
use Rattle.appending.specs.Inner.{Writes}
use Rattle.walks.specs.Asked.{asking}
use Rattle.display.specs.Reply.{displaying, reply_of, left}

-- the text of node n, in any arena that memory holds, is put behind the first `count` bytes, with the names of the table t so spelled
pub record Prints (sp : Spelling) (t w s : List ℕ) (c : Counters) (n : ℕ) (b : List ℕ) (count : ℕ) (b' : List ℕ) (end : ℕ) : Type 0 where
  pub is : (table : ℕ) (a : Arena) → Holds table w s c a → Writes b count (type_text sp (split t) a n) b' end

-- what is answered and left is the text of the root's type, in any arena that memory holds
pub record Displays (sp : Spelling) (t w s : List ℕ) (c : Counters) (root : ℕ) (b b' : List ℕ) (r : Out ℕ) : Type 0 where
  pub is : (table : ℕ) (a : Arena) → Holds table w s c a → left r b' ≡ displaying b (type_text sp (split t) a root)

-- the same after 6
pub record DisplaysRoot (sp : Spelling) (t w s : List ℕ) (c : Counters) (root : ℕ) (b b' : List ℕ) (r : Out ℕ) : Type 0 where
  pub is : (table : ℕ) (a : Arena) → Holds table w s c a → left r b' ≡ reply_of b (asking (type_text sp (split t)) root a)
