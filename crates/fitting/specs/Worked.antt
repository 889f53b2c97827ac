-- Small types and the values that they take: each sentence of 02, A5, both ways.
use Rattle.std.specs.Prelude.{ℕ, ◌-◌, Bool, true, false, ◌&&◌, List, [], ◌∷◌, reverse, length}
use Rattle.std.proofs.Math.Option.{Option, none, some}
use Rattle.types.specs.Node.{positive, negative, Field, field, primitive, list, lambda, attrset, named}
use Rattle.types.specs.Node.{members, bound, neg, form, Node, node}
use Rattle.types.specs.Arena.{Arena, sound}
use Rattle.fix_values.specs.Values as values
use Rattle.fix_values.specs.Values.{Value, value}
use Rattle.fix_values.specs.Fix.{Fix, good}
use Rattle.fitting.specs.Fits.{Test, takes, fits}

-- what the definition gives, and what it should give
pub record Case : Type 0 where
  pub gives : Option (List ℕ)
  pub says : Option (List ℕ)

-- the numbers that pass, of the values of a fix or the nodes of an arena
unfoldable pub passing : {A : Type 0} → Test → List A → List ℕ
passing t [] = []
passing t (x ∷ xs) = elim (t (length xs)) [ true ↦ length xs ∷ passing t xs | false ↦ passing t xs ]

-- in a sound arena, and of values that may stand so, under a table of three names
abbrev checked : Fix → Arena → List ℕ → List ℕ → Case
checked f a xs ns = record { gives = elim (sound 3 a && good 3 f) [ true ↦ some (reverse xs) | false ↦ none ]; says = some ns }

-- of these values, from value 0 on, the last of these nodes, from node 0 on, takes those with these numbers
abbrev taken : List Value → List Node → List ℕ → Case
taken vs xs = checked (reverse vs) (reverse xs) (passing (takes (reverse vs) (reverse xs) (length xs - 1)) (reverse vs))

-- and of these nodes the fix fits those with these numbers
abbrev fitted : List Value → List Node → List ℕ → Case
fitted vs xs = checked (reverse vs) (reverse xs) (passing (fits (reverse vs) (reverse xs)) (reverse xs))

-- a value of each kind, by the kind's number
abbrev each_kind : List Value
each_kind =
    value (values.plain 0) [] ∷ value (values.plain 1) [] ∷ value (values.plain 2) [] ∷ value (values.plain 3) []
    ∷ value (values.plain 4) [] ∷ value (values.plain 5) [] ∷ value values.list [] ∷ value (values.set []) [] ∷ []

-- an int and a string, which are the values 0 and 1 of the fixes below, and their types, which are the nodes 0 and 1
abbrev int : Value
int = value (values.plain 2) []

abbrev string : Value
string = value (values.plain 4) []

abbrev prim : ℕ → Node
prim c = node (form (primitive c)) []

-- the empty list; a list of ints; a string in it; a list of that
abbrev lists : List Value
lists =
    int ∷ string ∷ value values.list [] ∷ value values.list (0 ∷ 0 ∷ []) ∷ value values.list (0 ∷ 1 ∷ 0 ∷ [])
    ∷ value values.list (3 ∷ []) ∷ []

-- from value 2 on: {}, {p: int}, {p: string}, {p: int, q: int}, {p: int, q: string}, {q: string}, [{p: int}]
abbrev sets : List Value
sets =
    int ∷ string ∷ value (values.set []) [] ∷ value (values.set (0 ∷ [])) (0 ∷ []) ∷ value (values.set (0 ∷ [])) (1 ∷ [])
    ∷ value (values.set (0 ∷ 1 ∷ [])) (0 ∷ 0 ∷ []) ∷ value (values.set (0 ∷ 1 ∷ [])) (0 ∷ 1 ∷ []) ∷ value (values.set (1 ∷ [])) (1 ∷ [])
    ∷ value values.list (3 ∷ []) ∷ []

-- of these sets a set type takes those with these numbers; its children are int and string
abbrev set_type : List Field → Bool → Bool → List ℕ → List ℕ → Case
set_type fs d o cs = taken sets (prim 2 ∷ prim 4 ∷ node (form (attrset fs d o)) cs ∷ [])

abbrev pub worked : List Case
worked =
    -- a primitive takes the value of its name; `uri` takes a string, and `number` int and float
    taken each_kind (prim 0 ∷ []) (0 ∷ [])
    ∷ taken each_kind (prim 1 ∷ []) (1 ∷ [])
    ∷ taken each_kind (prim 2 ∷ []) (2 ∷ [])
    ∷ taken each_kind (prim 3 ∷ []) (3 ∷ [])
    ∷ taken each_kind (prim 4 ∷ []) (4 ∷ [])
    ∷ taken each_kind (prim 5 ∷ []) (5 ∷ [])
    ∷ taken each_kind (prim 6 ∷ []) (4 ∷ [])
    ∷ taken each_kind (prim 7 ∷ []) (2 ∷ 3 ∷ [])
    -- `never`, `any`, a lambda from int to int, `Named`, `Neg`
    ∷ taken each_kind (node (bound positive) [] ∷ []) []
    ∷ taken each_kind (node (bound negative) [] ∷ []) (0 ∷ 1 ∷ 2 ∷ 3 ∷ 4 ∷ 5 ∷ 6 ∷ 7 ∷ [])
    ∷ taken each_kind (prim 2 ∷ node (form lambda) (0 ∷ 0 ∷ []) ∷ []) []
    ∷ taken each_kind (prim 2 ∷ node (form (named 0)) (0 ∷ []) ∷ []) (2 ∷ [])
    ∷ taken each_kind (prim 7 ∷ node neg (0 ∷ []) ∷ []) (0 ∷ 1 ∷ 4 ∷ 5 ∷ 6 ∷ 7 ∷ [])
    -- a union and an intersection of `number` and int
    ∷ taken each_kind (prim 7 ∷ prim 2 ∷ node (members positive) (0 ∷ 1 ∷ []) ∷ []) (2 ∷ 3 ∷ [])
    ∷ taken each_kind (prim 7 ∷ prim 2 ∷ node (members negative) (0 ∷ 1 ∷ []) ∷ []) (2 ∷ [])
    -- lists of ints, and lists of those; a list of `any` and a closed set without fields take the lists and the sets
    ∷ taken lists (prim 2 ∷ node (form list) (0 ∷ []) ∷ []) (2 ∷ 3 ∷ [])
    ∷ taken lists (prim 2 ∷ node (form list) (0 ∷ []) ∷ node (form list) (1 ∷ []) ∷ []) (2 ∷ 5 ∷ [])
    ∷ taken each_kind (node (bound negative) [] ∷ node (form list) (0 ∷ []) ∷ []) (6 ∷ [])
    ∷ taken each_kind (node (form (attrset [] false false)) [] ∷ []) (7 ∷ [])
    -- {p: int}, and the same open; {p: int, q?: string}, and the same open
    ∷ set_type (field false 0 ∷ []) false false (0 ∷ []) (3 ∷ [])
    ∷ set_type (field false 0 ∷ []) false true (0 ∷ []) (3 ∷ 5 ∷ 6 ∷ [])
    ∷ set_type (field false 0 ∷ field true 1 ∷ []) false false (0 ∷ 1 ∷ []) (3 ∷ 6 ∷ [])
    ∷ set_type (field false 0 ∷ field true 1 ∷ []) false true (0 ∷ 1 ∷ []) (3 ∷ 6 ∷ [])
    -- {p: int} with string as its dynamic type, and the same open; ints alone as the dynamic type
    ∷ set_type (field false 0 ∷ []) true false (0 ∷ 1 ∷ []) (3 ∷ 6 ∷ [])
    ∷ set_type (field false 0 ∷ []) true true (0 ∷ 1 ∷ []) (3 ∷ 6 ∷ [])
    ∷ set_type [] true false (0 ∷ []) (2 ∷ 3 ∷ 5 ∷ [])
    -- the fix is the last of its values: a string after an int, an int after a string, {p: int} after its int and a {}
    ∷ fitted (int ∷ string ∷ []) (prim 2 ∷ prim 4 ∷ []) (1 ∷ [])
    ∷ fitted (string ∷ int ∷ []) (prim 2 ∷ prim 4 ∷ []) (0 ∷ [])
    ∷ fitted (int ∷ value (values.set []) [] ∷ value (values.set (0 ∷ [])) (0 ∷ []) ∷ [])
    (prim 2 ∷ node (form (attrset [] false false)) [] ∷ node (form (attrset (field false 0 ∷ []) false false)) (0 ∷ []) ∷ []) (2 ∷ [])
    ∷ []
