-- Small sheets, and what each says.
use Rattle.std.specs.Prelude.{ℕ, true, false, List, [], ◌∷◌, ◌++◌, Ok, Err}
use Rattle.types.specs.declared.refusal.Refusal.TheVariants as refusal
use Rattle.types.specs.Out.{Out}
use Rattle.words.specs.declared.Layout.{Layout}
use Rattle.words.specs.declared.Layout.TheVariants as layout
use Rattle.types.specs.Node.{positive, field, primitive, attrset, named, Tag, members, var, form, node}
use Rattle.types.specs.Arena.{Arena}
use Rattle.sheet_reading.specs.Sheet.{Sheet}

pub record Case : Type 0 where
  pub layout : Layout
  pub bytes : List ℕ
  pub says : Out Sheet

-- the same for both layouts, and for one
abbrev both : List ℕ → Out Sheet → List Case
both bs o = record { layout = layout.New; bytes = bs; says = o } ∷ record { layout = layout.Old; bytes = bs; says = o } ∷ []

abbrev each : List ℕ → Out Sheet → Out Sheet → List Case
each bs new old = record { layout = layout.New; bytes = bs; says = new } ∷ record { layout = layout.Old; bytes = bs; says = old } ∷ []

-- an opening: counts of names and nodes, and a root, below 256 each
abbrev pub opens : ℕ → ℕ → ℕ → List ℕ
opens names nodes root = 0 ∷ names ∷ 0 ∷ nodes ∷ 0 ∷ root ∷ []

-- variable 0; a primitive; two members; a set of one field, whose name and child are 0
abbrev pub variable : List ℕ
variable = 48 ∷ 0 ∷ 0 ∷ 1 ∷ 0 ∷ 0 ∷ 0 ∷ 0 ∷ []

abbrev pub primitive_of : ℕ → List ℕ
primitive_of c = 32 ∷ 0 ∷ 0 ∷ 1 ∷ 0 ∷ 0 ∷ 0 ∷ c ∷ []

abbrev pub union_of : ℕ → ℕ → List ℕ
union_of m n = 112 ∷ 0 ∷ 0 ∷ 2 ∷ 0 ∷ 0 ∷ 0 ∷ m ∷ 0 ∷ 0 ∷ 0 ∷ n ∷ []

abbrev pub fields : List ℕ
fields = 96 ∷ 0 ∷ 0 ∷ 2 ∷ 0 ∷ 0 ∷ 0 ∷ 0 ∷ 0 ∷ 0 ∷ 0 ∷ 0 ∷ []

-- the sheet of document 01
abbrev pub example : List ℕ
example = opens 0 3 2 ++ variable ++ primitive_of 2 ++ union_of 0 1

-- its arena
abbrev pub example_arena : Arena
example_arena = node (members positive) (0 ∷ 1 ∷ []) ∷ node (form (primitive 2)) [] ∷ node (var 0) [] ∷ []

-- a named type and a set, whose child is variable 0, with one field word
abbrev named_with : List ℕ → List ℕ
named_with w = variable ++ (144 ∷ 0 ∷ 0 ∷ 1 ∷ []) ++ w

abbrev set_with : List ℕ → List ℕ
set_with w = variable ++ (96 ∷ 0 ∷ 0 ∷ 1 ∷ []) ++ w

-- two names
abbrev two_names : List ℕ
two_names = 1 ∷ 97 ∷ 1 ∷ 98 ∷ []

-- a sheet of two names, two nodes and this tag over variable 0, whose root is node 1
abbrev two_nodes : Tag → Out Sheet
two_nodes t = Ok (record { names = (97 ∷ []) ∷ (98 ∷ []) ∷ []; arena = node t (0 ∷ []) ∷ node (var 0) [] ∷ []; root = 1 })

-- a closed set whose one field is optional and has name 1
abbrev optional_one : Tag
optional_one = form (attrset (field true 1 ∷ []) false false)

-- (01, "A sheet and its line" and "Who can cause which number"): the example, then for each number a sheet that is refused by it; then what
-- tells the layouts apart (02, A2): the counts of names, name 1 in a field and in a named type, the zero fields, name 0
abbrev pub worked : List Case
worked =
    both example (Ok (record { names = []; arena = example_arena; root = 2 }))
    ++ both (opens 1 0 0 ++ (65 ∷ [])) (Err refusal.BadTable)
    ++ both (opens 2 0 0 ++ (1 ∷ 97 ∷ 1 ∷ 97 ∷ [])) (Err refusal.BadTable)
    ++ both (opens 0 1 0 ++ (48 ∷ 0 ∷ 0 ∷ 2 ∷ [])) (Err refusal.MalformedNode)
    ++ both (opens 0 1 0 ++ primitive_of 8) (Err refusal.MalformedNode)
    ++ both (opens 0 2 0 ++ variable ++ union_of 0 1) (Err refusal.OutOfRange)
    ++ both (opens 1 2 0 ++ (1 ∷ 97 ∷ []) ++ variable ++ fields) (Err refusal.UnorderedFields)
    ++ both (opens 0 1 1 ++ variable) (Err refusal.NoSuchRoot)
    ++ both (opens 0 1 0 ++ (48 ∷ 0 ∷ 0 ∷ 1 ∷ 0 ∷ [])) (Err refusal.MalformedSheet)
    ++ both (opens 0 1 1 ++ variable ++ (0 ∷ [])) (Err refusal.MalformedSheet)
    ++ both (opens 0 2 0 ++ variable ++ variable) (Err refusal.MalformedSheet)
    ++ both (opens 1 0 0 ++ (2 ∷ 97 ∷ [])) (Err refusal.MalformedSheet)
    ++ both (0 ∷ 0 ∷ 0 ∷ 0 ∷ 0 ∷ []) (Err refusal.MalformedSheet)
    ++ both (16 ∷ 1 ∷ 0 ∷ 0 ∷ 0 ∷ 0 ∷ []) (Err refusal.BadTable)
    ++ each (1 ∷ 1 ∷ 0 ∷ 0 ∷ 0 ∷ 0 ∷ []) (Err refusal.MalformedSheet) (Err refusal.BadTable)
    ++ each (opens 2 2 1 ++ two_names ++ set_with (128 ∷ 128 ∷ 0 ∷ 0 ∷ [])) (Err refusal.OutOfRange) (two_nodes optional_one)
    ++ each (opens 2 2 1 ++ two_names ++ set_with (128 ∷ 0 ∷ 128 ∷ 0 ∷ [])) (two_nodes optional_one) (Err refusal.MalformedNode)
    ++ each (opens 2 2 1 ++ two_names ++ named_with (0 ∷ 0 ∷ 128 ∷ 0 ∷ [])) (two_nodes (form (named 1))) (Err refusal.MalformedNode)
    ++ both (opens 2 2 1 ++ two_names ++ named_with (0 ∷ 0 ∷ 16 ∷ 0 ∷ [])) (Err refusal.MalformedNode)
    ++ both (opens 2 2 1 ++ two_names ++ named_with (0 ∷ 0 ∷ 64 ∷ 0 ∷ [])) (Err refusal.MalformedNode)
    ++ both (opens 2 2 1 ++ two_names ++ named_with (0 ∷ 0 ∷ 0 ∷ 0 ∷ [])) (two_nodes (form (named 0)))
