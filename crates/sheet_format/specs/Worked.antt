-- Small sheets and their lines.
use Rattle.std.specs.Prelude.{ℕ, List, [], ◌∷◌, ◌++◌}
use Prim.Native.String.{String}
use Rattle.types.specs.Bytes.{bytes}
use Rattle.sheet_reading.specs.Worked.{opens, variable, primitive_of, example}

pub record Case : Type 0 where
  pub sheet : List ℕ
  pub line : List ℕ

-- a sheet with this line, which byte 10 ends
abbrev lined : List ℕ → String → Case
lined sheet line = record { sheet = sheet; line = bytes line ++ (10 ∷ []) }

-- a set of one field, whose name and child are 0
abbrev set_of_one : List ℕ
set_of_one = 96 ∷ 0 ∷ 0 ∷ 1 ∷ 0 ∷ 0 ∷ 0 ∷ 0 ∷ []

-- (01, "A sheet and its line"): the example; a set with a name, and with one in quotes (02, A1); a root that is no node; no byte at all
abbrev pub worked : List Case
worked =
    lined example "1 2 int"
    ∷ lined (opens 1 2 1 ++ (1 ∷ 112 ∷ []) ++ primitive_of 2 ++ set_of_one) "1 2 { p: int }"
    ∷ lined (opens 1 2 1 ++ (2 ∷ bytes "or") ++ primitive_of 2 ++ set_of_one) "1 2 { \"or\": int }"
    ∷ lined (opens 0 1 1 ++ variable) "refused 6"
    ∷ lined [] "refused 10"
    ∷ []
