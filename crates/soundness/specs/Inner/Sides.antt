-- What a call that is lent two arenas knows of each.
use Rattle.std.specs.Prelude.{ℕ, ◌≡◌, List, length}
use Rattle.std.proofs.Math.Option.{some}
use Rattle.types.specs.Arena.{Arena}
use Rattle.types.specs.Memory.{Holds}
use Rattle.types.specs.declared.Counters.{Counters}
use Rattle.names.specs.Table.{Name, names_of}

-- a table, its names, and the arena that memory holds under them
pub record Side (t w s : List ℕ) (c : Counters) : Type 0 where
  pub names : List Name
  pub is : names_of t ≡ some names
  pub view : Arena
  pub holds : Holds (length names) w s c view
