-- What is asked and answered of child i of node n, in any arena that memory holds.
use Rattle.std.specs.Prelude.{ℕ, ◌<◌, ◌≡◌, Bool, List, length, get_or}
use Rattle.types.specs.Bytes.{bytes}
use Rattle.types.specs.Kind.{disc}
use Rattle.types.specs.Node.{tag, kind, children}
use Rattle.types.specs.Arena.{Arena, at}
use Rattle.types.specs.Memory.{Holds}
use Rattle.types.specs.declared.Counters.{Counters}
use Rattle.names.specs.Table.{split}
use Rattle.spelling.specs.declared.Spelling.{Spelling}
use Rattle.node_store.specs.Inner.Stored.{Lent}
use Rattle.appending.specs.Parts.{when}
use Rattle.text_writing.specs.Text.{parens, before}
use Rattle.appending.specs.Inner.{Writes}

-- memory holds an arena whose node n has a child i
pub record ChildOf (w s : List ℕ) (c : Counters) (n i : ℕ) : Type 0 where
  pub lent : Lent w s c
  pub inside : n < c.nodes
  pub child : i < length (children (at lent.view n))

-- does it stand in parentheses?
unfoldable pub encloses : Arena → ℕ → ℕ → Bool
unfolding parens at
encloses a n i = parens (tag (at a n)) i (disc (kind (tag (at a (get_or (children (at a n)) i 0)))))

-- m is its number
pub record IsChild (w s : List ℕ) (c : Counters) (n i m : ℕ) : Type 0 where
  pub is : (table : ℕ) (a : Arena) → Holds table w s c a → m ≡ get_or (children (at a n)) i 0

-- r is whether it stands in parentheses
pub record Encloses (w s : List ℕ) (c : Counters) (n i : ℕ) (r : Bool) : Type 0 where
  pub is : (table : ℕ) (a : Arena) → Holds table w s c a → r ≡ encloses a n i

-- what stands before it is written, with names so spelled; t are the bytes of the name table
pub record Opens (sp : Spelling) (t w s : List ℕ) (c : Counters) (n i : ℕ) (b : List ℕ) (count : ℕ) (b' : List ℕ) (end : ℕ) : Type 0 where
  pub is : (table : ℕ) (a : Arena) → Holds table w s c a → Writes b count (before sp (split t) (tag (at a n)) i (encloses a n i)) b' end

-- what stands behind it is written
pub record Closes (w s : List ℕ) (c : Counters) (n i : ℕ) (b : List ℕ) (count : ℕ) (b' : List ℕ) (end : ℕ) : Type 0 where
  pub is : (table : ℕ) (a : Arena) → Holds table w s c a → Writes b count (when (encloses a n i) (bytes ")")) b' end
