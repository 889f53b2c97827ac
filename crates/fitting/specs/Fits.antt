-- Which values of a fix fit which nodes of a type, sentence by sentence (02, A5).
use Rattle.std.specs.Prelude.{ℕ, ◌-◌, Bool, true, false, not, ◌&&◌, ◌||◌, List, [], ◌∷◌, length, drop, eqb}
use Rattle.types.specs.Node.{positive, negative, Field, field, primitive, list, lambda, attrset, named, Tag, members, bound, var, neg, form}
use Rattle.types.specs.Arena.{Arena, fold}
use Rattle.fix_values.specs.Values as values
use Rattle.fix_values.specs.Values.{Value, value, shape, kind}
use Rattle.fix_values.specs.Fix.{Fix, value_at}

-- which values, by their numbers, fit
abbrev pub Test : Type 0
Test = ℕ → Bool

-- does one of the tests pass value v; do all?
unfoldable pub some_pass : List Test → Test
some_pass [] v = false
some_pass (t ∷ ts) v = t v || some_pass ts v

unfoldable pub all_pass : List Test → Test
all_pass [] v = true
all_pass (t ∷ ts) v = t v && all_pass ts v

-- the first test of several, which may be none
abbrev pub first : List Test → Test
first [] v = false
first (t ∷ ts) v = t v

-- does the test pass each value?
unfoldable pub each : Test → List ℕ → Bool
each t [] = true
each t (v ∷ vs) = t v && each t vs

-- a primitive takes the value of its name, whose kind has its code; `uri`, 6, takes a string, and `number`, 7, int and float
unfoldable pub primitive_takes : ℕ → ℕ → Bool
primitive_takes c k = elim (eqb c 7) [
  | true ↦ eqb k 2 || eqb k 3
  | false ↦ elim (eqb c 6) [ true ↦ eqb k 4 | false ↦ eqb c k ]
]

-- a list fits if each element does; a list type takes only lists
unfoldable pub list_takes : Test → Value → Bool
unfolding each
list_takes t (value (values.plain k) cs) = false
list_takes t (value values.list cs) = each t cs
list_takes t (value (values.set ns) cs) = false

-- is the name one of these?
unfoldable pub among : ℕ → List ℕ → Bool
among n [] = false
among n (m ∷ ms) = eqb n m || among n ms

-- a set needs every field that isn't optional
unfoldable pub none_missing : List Field → List ℕ → Bool
unfolding among
none_missing [] ns = true
none_missing (field o n ∷ fs) ns = (o || among n ns) && none_missing fs ns

-- what a field of this name must pass: the type's field of that name, and if it names none `other`
unfoldable pub field_test : List Field → List Test → Test → ℕ → Test
field_test [] ts other n = other
field_test (f ∷ fs) [] other n = other
field_test (field o m ∷ fs) (t ∷ ts) other n = elim (eqb n m) [ true ↦ t | false ↦ field_test fs ts other n ]

-- any other field must fit the dynamic type, the last child, if there is one; else the set must be open
abbrev pub other_test : Bool → Bool → List Test → Test
other_test true o ts v = first ts v
other_test false o ts v = o

-- does each field of a value pass the test for its name?
unfoldable pub fields_pass : (ℕ → Test) → List ℕ → List ℕ → Bool
fields_pass t [] vs = true
fields_pass t (n ∷ ns) [] = true
fields_pass t (n ∷ ns) (v ∷ vs) = t n v && fields_pass t ns vs

-- a set type takes only sets
unfoldable pub set_takes : List Field → Bool → Bool → List Test → Value → Bool
unfolding none_missing field_test fields_pass
set_takes fs d o ts (value (values.plain k) cs) = false
set_takes fs d o ts (value values.list cs) = false
set_takes fs d o ts (value (values.set ns) cs) =
    none_missing fs ns && fields_pass (field_test fs ts (other_test d o (drop (length fs) ts))) ns cs

-- what a node takes, from its tag and what its children take: a union needs one member to fit, an intersection all; no value fits a lambda;
-- `Named` is its inner type; `Neg` takes exactly what its inner type doesn't; `never` takes nothing and `any` all. A type with a variable
-- is refused before, and so a variable takes nothing
unfoldable pub node_takes : Fix → Tag → List Test → Test
unfolding some_pass all_pass primitive_takes list_takes set_takes value_at
node_takes f (members positive) ts v = some_pass ts v
node_takes f (members negative) ts v = all_pass ts v
node_takes f (bound positive) ts v = false
node_takes f (bound negative) ts v = true
node_takes f (var x) ts v = false
node_takes f neg ts v = not (first ts v)
node_takes f (form (primitive c)) ts v = primitive_takes c (kind (shape (value_at f v)))
node_takes f (form list) ts v = list_takes (first ts) (value_at f v)
node_takes f (form lambda) ts v = false
node_takes f (form (attrset fs d o)) ts v = set_takes fs d o ts (value_at f v)
node_takes f (form (named n)) ts v = first ts v

-- the values of the fix that node n takes
unfoldable pub takes : Fix → Arena → ℕ → Test
unfolding fold node_takes
takes f = fold (node_takes f)

-- does the fix itself, its last value, fit the type of the root?
unfoldable pub fits : Fix → Arena → ℕ → Bool
unfolding takes
fits f a root = takes f a root (length f - 1)
