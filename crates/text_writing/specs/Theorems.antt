-- What is shown of the text of a type beyond the contracts.
use Rattle.std.specs.Prelude.{ℕ, ◌<◌, ◌≡◌, true, List, [], length, get_or}
use Rattle.types.specs.Node.{tag, names}
use Rattle.types.specs.Arena.{Arena, at, sound}
use Rattle.types.specs.Places.{Reachable}
use Rattle.names.specs.Table.{Name}
use Rattle.spelling.specs.Spelling.{plain}
use Rattle.spelling.specs.declared.Spelling.TheVariants as spelling
use Rattle.text_writing.specs.Text.{type_text}

-- every name at a place of the type of the root is plain
pub record PlainType (ns : List Name) (a : Arena) (root : ℕ) : Type 0 where
  pub is : (u : ℕ) → Reachable a root u → (i : ℕ) → i < length (names (tag (at a u)))
      → plain (get_or ns (get_or (names (tag (at a u))) i 0) []) ≡ true

-- such a type has the same text in both prints (02, A1)
abbrev pub PlainTypeAlike : Type 0
PlainTypeAlike =
    (ns : List Name) (table : ℕ) (a : Arena) → sound table a ≡ true → (root : ℕ) → root < length a → PlainType ns a root
    → type_text spelling.Nix ns a root ≡ type_text spelling.Bare ns a root
