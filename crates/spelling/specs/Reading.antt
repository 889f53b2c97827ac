-- How the Nix manual reads a name: an identifier that isn't reserved, or a string without interpolation (02, A1, rests on the manual's
-- identifiers and strings).
use Rattle.std.specs.Prelude.{ℕ, Bool, true, false, ◌&&◌, List, [], ◌∷◌, ◌++◌, eqb}
use Rattle.std.proofs.Math.Option.{Option, none, some}
use Rattle.names.specs.Table.{Name}
use Rattle.spelling.specs.Spelling.{continues, plain}

-- a name that was read, and what stands behind it
pub record Read : Type 0 where
  pub name : Name
  pub rest : List ℕ

-- the same with these bytes before those that were read
unfoldable pub with_front : List ℕ → Option Read → Option Read
with_front bs none = none
with_front bs (some r) = some (record { name = bs ++ r.name; rest = r.rest })

-- what a backslash makes of the byte behind it: `\n`, `\r` and `\t` are control characters, any other byte is itself
unfoldable pub unescaped : ℕ → ℕ
unescaped b = elim (eqb b 110) [
  | true ↦ 10
  | false ↦ elim (eqb b 114) [ true ↦ 13 | false ↦ elim (eqb b 116) [ true ↦ 9 | false ↦ b ] ]
]

-- a string that begins with the bytes b and c, where `one` is read behind b and `two` behind c: `$$` is two dollars, and `${` begins an
-- interpolation, which is no name
unfoldable pub string_step : ℕ → ℕ → List ℕ → Option Read → Option Read → Option Read
unfolding with_front unescaped
string_step b c cs one two = elim (eqb b 34) [
  | true ↦ some (record { name = []; rest = c ∷ cs })
  | false ↦ elim (eqb b 92) [
    | true ↦ with_front (unescaped c ∷ []) two
    | false ↦ elim (eqb b 36 && eqb c 36) [
      | true ↦ with_front (b ∷ c ∷ []) two
      | false ↦ elim (eqb b 36 && eqb c 123) [ true ↦ none | false ↦ with_front (b ∷ []) one ]
    ]
  ]
]

-- a string from behind its first quote up to its last
unfoldable pub read_string : List ℕ → Option Read
unfolding string_step
read_string [] = none
read_string (b ∷ []) = elim (eqb b 34) [ true ↦ some (record { name = []; rest = [] }) | false ↦ none ]
read_string (b ∷ c ∷ cs) = string_step b c cs (read_string (c ∷ cs)) (read_string cs)

-- the bytes at the front with which an identifier may go on, as many as there are
unfoldable pub read_word : List ℕ → Read
unfolding continues
read_word [] = record { name = []; rest = [] }
read_word (b ∷ bs) = elim (continues b) [
  | true ↦ record { name = b ∷ (read_word bs).name; rest = (read_word bs).rest }
  | false ↦ record { name = []; rest = b ∷ bs }
]

-- these are a name where they are an identifier that isn't reserved
unfoldable pub read_identifier : List ℕ → Option Read
unfolding read_word plain
read_identifier x = elim (plain (read_word x).name) [ true ↦ some (read_word x) | false ↦ none ]

-- the name at the front of a text, and what stands behind it
unfoldable pub read_name : List ℕ → Option Read
unfolding read_string read_identifier
read_name [] = none
read_name (b ∷ bs) = elim (eqb b 34) [ true ↦ read_string bs | false ↦ read_identifier (b ∷ bs) ]

-- could an identifier go on with these bytes? Behind a printed name stand `:`, `?`, a space, `,`, `)`, `]` or nothing, with which none can
unfoldable pub goes_on : List ℕ → Bool
unfolding continues
goes_on [] = false
goes_on (b ∷ bs) = continues b
