-- The variables of the type of a root, each once, in the order in which a walk from left to right first meets them (01, "arena").
use Rattle.std.specs.Prelude.{ℕ, Bool, true, false, ◌||◌, not, ◌&&◌, length, eqb, Ok, Err}
use mathlib.Core.List.{List, [], ◌∷◌, ◌++◌, foldl, flatten}
use Rattle.types.specs.Out.{Out}
use Rattle.types.specs.Node.{Tag, members, bound, var, neg, form}
use Rattle.types.specs.Arena.{Arena, fold}
use Rattle.types.specs.Memory.{padded}
use Rattle.free_vars.specs.declared.VarList.{VarList}

-- a variable has itself, and any other node what its children have, one after another
unfoldable pub node_vars : Tag → List (List ℕ) → List ℕ
unfolding flatten
node_vars (members k) vs = flatten vs
node_vars (bound k) vs = flatten vs
node_vars (var v) vs = v ∷ []
node_vars neg vs = flatten vs
node_vars (form f) vs = flatten vs

-- the variables at all places of the type of a node, from left to right: one that has several places is there as often
unfoldable pub occurrences : Arena → ℕ → List ℕ
unfolding fold node_vars
occurrences = fold node_vars

-- is v in the list?
unfoldable pub contains : List ℕ → ℕ → Bool
contains [] v = false
contains (x ∷ l) v = eqb x v || contains l v

-- the list with v at its end, unless v is there
unfoldable pub add_new : List ℕ → ℕ → List ℕ
unfolding contains
add_new l v = elim (contains l v) [ true ↦ l | false ↦ l ++ (v ∷ []) ]

-- the list with each of some variables added in turn: of each the first copy is kept
unfoldable pub add_all : List ℕ → List ℕ → List ℕ
unfolding add_new
add_all = foldl add_new

-- the free variables of the type of a root (the Rust's `free_type_vars`)
unfoldable pub free_type_vars : Arena → ℕ → List ℕ
unfolding occurrences add_all
free_type_vars a root = add_all [] (occurrences a root)

-- the same in a list of 4,096 with its length, zeros after
unfoldable pub free_list : Arena → ℕ → VarList
unfolding free_type_vars
free_list a root = record { vars = padded 4096 (free_type_vars a root); count = length (free_type_vars a root) }

-- the cases of an answer, with the array that is lent: the variables listed there; a refusal
abbrev pub lent_out : Out ℕ → List ℕ → Out VarList
lent_out (Ok n) vars = Ok (record { vars = vars; count = n })
lent_out (Err e) vars = Err e

-- the answer, with the array it leaves, that says this and no more: a refusal leaves the array. `lent_out` reads it back: the theorem
-- `AnsweredOut`
abbrev pub answered : List ℕ → Out VarList → Out ℕ × List ℕ
answered vars (Ok l) = (Ok l.count, l.vars)
answered vars (Err e) = (Err e, vars)

-- is no variable there twice?
unfoldable pub distinct : List ℕ → Bool
unfolding contains
distinct [] = true
distinct (v ∷ l) = not (contains l v) && distinct l
