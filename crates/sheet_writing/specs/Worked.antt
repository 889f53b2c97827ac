-- Small sheets, and the bytes of each.
use Rattle.std.specs.Prelude.{ℕ, true, false, List, [], ◌∷◌, ◌++◌}
use Rattle.words.specs.declared.Layout.{Layout}
use Rattle.words.specs.declared.Layout.TheVariants as layout
use Rattle.types.specs.Node.{var, form, attrset, field, node}
use Rattle.sheet_reading.specs.Sheet.{Sheet}
use Rattle.sheet_reading.specs.Worked.{opens, variable, example, example_arena}

pub record Case : Type 0 where
  pub layout : Layout
  pub sheet : Sheet
  pub bytes : List ℕ

-- a sheet with the names `a` and `bc`, whose root is an open set with an optional field `bc`
abbrev with_field : Sheet
with_field = record {
  names = (97 ∷ []) ∷ (98 ∷ 99 ∷ []) ∷ [];
  arena = node (form (attrset (field true 1 ∷ []) false true)) (0 ∷ []) ∷ node (var 0) [] ∷ [];
  root = 1;
}

-- its bytes up to the field word
abbrev before_field : List ℕ
before_field = opens 2 2 1 ++ (1 ∷ 97 ∷ 2 ∷ 98 ∷ 99 ∷ []) ++ variable ++ (104 ∷ 0 ∷ 0 ∷ 1 ∷ [])

-- the sheet of document 01; that one, in both layouts (02, A2); one whose numbers need more than a byte
abbrev pub worked : List Case
worked =
    record { layout = layout.New; sheet = record { names = []; arena = example_arena; root = 2 }; bytes = example }
    ∷ record { layout = layout.New; sheet = with_field; bytes = before_field ++ (128 ∷ 0 ∷ 128 ∷ 0 ∷ []) }
    ∷ record { layout = layout.Old; sheet = with_field; bytes = before_field ++ (128 ∷ 128 ∷ 0 ∷ 0 ∷ []) }
    ∷ record {
      layout = layout.New;
      sheet = record { names = []; arena = node (var 66051) [] ∷ []; root = 258 };
      bytes = 0 ∷ 0 ∷ 0 ∷ 1 ∷ 1 ∷ 2 ∷ 48 ∷ 0 ∷ 0 ∷ 1 ∷ 0 ∷ 1 ∷ 2 ∷ 3 ∷ [];
    }
    ∷ []
