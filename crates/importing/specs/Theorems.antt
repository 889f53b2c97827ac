-- What is shown of these definitions beyond the contracts (02, A4).
use Rattle.std.specs.Prelude.{ℕ, ◌<◌, ◌≡◌, true, ◌↔◌, length, get_or}
use mathlib.Core.List.{List, [], map, Memᴰ as Mem}
use Rattle.std.proofs.Math.Option.{Option, none, some}
use Rattle.types.specs.Node.{tag, names}
use Rattle.types.specs.Arena.{Arena, at, sound}
use Rattle.types.specs.Places.{Reachable}
use Rattle.names.specs.Table.{Name, names_of}
use Rattle.name_lookup.specs.Theorems.{IsName}
use Rattle.importing.specs.Import.{number_in, lacks}
use Rattle.importing.specs.Worked.{Case, worked}

-- a name's number in the target's table is that of the name there with the same text; it has none exactly where no name there has
-- that text
pub record FoundByText (ns ms : List Name) (k : ℕ) : Type 0 where
  pub some_number : (p : ℕ) → (number_in ns ms k ≡ some p) ↔ IsName ms (get_or ns k []) p
  pub no_number : (number_in ns ms k ≡ none) ↔ ((p : ℕ) → IsName ms (get_or ns k []) p → ⊥)

abbrev pub NumbersByText : Type 0
NumbersByText = (ns : List Name) (u : List ℕ) (ms : List Name) → names_of u ≡ some ms → (k : ℕ) → FoundByText ns ms k

-- a node that is reachable from the root carries a name that has no number
pub record Lacking (f : ℕ → Option ℕ) (u : Arena) (root : ℕ) : Type 0 where
  pub node : ℕ
  pub reachable : Reachable u root node
  pub name : ℕ
  pub carried : Mem name (names (tag (at u node)))
  pub lacked : f name ≡ none

-- `lacks` says exactly that
abbrev pub LacksExactly : Type 0
LacksExactly =
    (f : ℕ → Option ℕ) (table : ℕ) (u : Arena) → sound table u ≡ true → (root : ℕ) → root < length u
    → (lacks f u root ≡ true) ↔ Lacking f u root

-- the worked imports give what they should
abbrev pub WorkedSo : Type 0
WorkedSo = map (λ (c : Case). c.gives) worked ≡ map (λ (c : Case). c.says) worked
