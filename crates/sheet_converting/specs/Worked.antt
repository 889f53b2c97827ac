-- Small old sheets, and what is answered and left of each.
use Rattle.std.specs.Prelude.{List, [], ◌∷◌, ◌++◌, ℕ, length, Ok, Err}
use Rattle.types.specs.declared.refusal.Refusal.TheVariants as refusal
use Rattle.display.specs.Reply.{Reply, reply}
use Rattle.sheet_reading.specs.Worked.{opens, variable, example}

pub record Case : Type 0 where
  pub sheet : List ℕ
  pub gives : Reply

-- a converted sheet, and a refused one
abbrev becomes : List ℕ → List ℕ → Case
becomes old new = record { sheet = old; gives = reply (Ok (length new)) new }

abbrev stays : List ℕ → Case
stays old = record { sheet = old; gives = reply (Err refusal.OldSheetRefused) old }

-- two names, variable 0 and a node with this head and body: an open set with a field and a dynamic part, or a `Named`
abbrev set_of : List ℕ → List ℕ
set_of w = opens 2 2 1 ++ (1 ∷ 97 ∷ 1 ∷ 98 ∷ []) ++ variable ++ (108 ∷ 0 ∷ 0 ∷ 2 ∷ []) ++ w ++ (0 ∷ 0 ∷ 0 ∷ 0 ∷ [])

abbrev named_of : List ℕ → List ℕ
named_of w = opens 2 2 1 ++ (1 ∷ 97 ∷ 1 ∷ 98 ∷ []) ++ variable ++ (144 ∷ 0 ∷ 0 ∷ 1 ∷ []) ++ w

-- 01's sheet, which has no field; an optional field with name 1; a `Named` with name 1; name 0; a bit of the zero field; one that is
-- already of today's layout; a root that is no node; no byte
abbrev pub worked : List Case
worked =
    becomes example example
    ∷ becomes (set_of (128 ∷ 128 ∷ 0 ∷ 0 ∷ [])) (set_of (128 ∷ 0 ∷ 128 ∷ 0 ∷ []))
    ∷ becomes (named_of (0 ∷ 128 ∷ 0 ∷ 0 ∷ [])) (named_of (0 ∷ 0 ∷ 128 ∷ 0 ∷ []))
    ∷ becomes (named_of (0 ∷ 0 ∷ 0 ∷ 0 ∷ [])) (named_of (0 ∷ 0 ∷ 0 ∷ 0 ∷ []))
    ∷ stays (named_of (0 ∷ 64 ∷ 0 ∷ 0 ∷ []))
    ∷ stays (named_of (0 ∷ 0 ∷ 128 ∷ 0 ∷ []))
    ∷ stays (opens 0 1 1 ++ variable)
    ∷ stays []
    ∷ []
