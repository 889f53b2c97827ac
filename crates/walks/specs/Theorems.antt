-- What is shown of these definitions beyond the contracts. A statement with parameters holds for all of them.
use Rattle.std.specs.Prelude.{ℕ, ◌<◌, ◌≡◌, true, ◌↔◌, length}
use Rattle.types.specs.Node.{Polarity, var, tag}
use Rattle.types.specs.Arena.{Arena, at, sound}
use Rattle.types.specs.Places.{Place, Reachable}
use Rattle.walks.specs.Reach.{reaches}
use Rattle.walks.specs.Removable.{Removable, OneSigned}
use Rattle.walks.specs.Paths.{TypePath, PathTo, Merged}

-- the test `reaches` says that a node has a place (01, "Places and passes")
abbrev pub ReachesPlace : Type 0
ReachesPlace = (table : ℕ) (a : Arena) → sound table a ≡ true → (u n : ℕ) → n < length a → reaches a n u ≡ true → Reachable a n u

-- and each node with a place passes it
abbrev pub PlaceReaches : ℕ → Arena → ℕ → Polarity → Polarity → Type 0
PlaceReaches table a n s p = sound table a ≡ true → (u : ℕ) → Place a n s u p → n < length a → reaches a n u ≡ true

-- ---- variables
-- a sound arena has one node for a variable
abbrev pub OneNode : Type 0
OneNode = (table : ℕ) (a : Arena) → sound table a ≡ true → (m n v : ℕ) → tag (at a m) ≡ var v → tag (at a n) ≡ var v → m ≡ n

-- so a variable's node has places of one sign exactly if the variable is seen with one sign
abbrev pub OneSignedRemovable : Type 0
OneSignedRemovable =
    (table : ℕ) (a : Arena) → sound table a ≡ true → (root u v : ℕ) → tag (at a u) ≡ var v → OneSigned a root u ↔ Removable a root v

-- ---- co-occurrence (01, "simplify": the paths go, since nothing is ever merged by them)
-- a path from a node names one variable
abbrev pub OneVariable : ℕ → Arena → ℕ → ℕ → ℕ → TypePath → Type 0
OneVariable table a n v w π = sound table a ≡ true → PathTo a n π v → PathTo a n π w → v ≡ w

-- two variables with the same paths are one, if one of them has a path
abbrev pub SameVariable : ℕ → Arena → ℕ → ℕ → ℕ → TypePath → Type 0
SameVariable table a n v w π =
    sound table a ≡ true → ((ρ : TypePath) → PathTo a n ρ v → PathTo a n ρ w) → PathTo a n π v → v ≡ w

-- a path that leads from node n to the variable v
pub record Occurrence (a : Arena) (n v : ℕ) : Type 0 where
  pub path : TypePath
  pub occurs : PathTo a n path v

-- every place of a variable has a path, so that this isn't said of nothing
abbrev pub PlacePath : Arena → ℕ → ℕ → ℕ → Polarity → Polarity → Type 0
PlacePath a n u v s p = Place a n s u p → tag (at a u) ≡ var v → Occurrence a n v

-- the Rust's substitution is empty
abbrev pub NothingMerged : ℕ → Arena → ℕ → ℕ → ℕ → Type 0
NothingMerged table a root v w = sound table a ≡ true → Merged a root v w → ⊥
