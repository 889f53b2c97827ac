-- What the search by halves needs.
use Rattle.std.specs.Prelude.{ℕ, ◌≡◌, List, length}
use Rattle.names.specs.Table.{split, IsTable}
use Rattle.names.specs.Inner.{Places}

-- the bytes are a table with so many names, and the list has their places
pub record Sought (t ps : List ℕ) (count : ℕ) : Type 0 where
  pub is : IsTable t (split t)
  pub places : Places t ps
  pub all : count ≡ length (split t)
