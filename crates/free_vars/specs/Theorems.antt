-- What is shown of these definitions beyond the contracts. A statement with parameters holds for all of them.
use Rattle.std.specs.Prelude.{ℕ, ◌<◌, ◌≡◌, true, List, length}
use Rattle.types.specs.Out.{Out}
use Rattle.types.specs.Node.{var, tag}
use Rattle.types.specs.Arena.{Arena, at, sound}
use Rattle.types.specs.Places.{Reachable}
use Rattle.free_vars.specs.FreeVars.{contains, free_type_vars, lent_out, answered}
use Rattle.free_vars.specs.declared.VarList.{VarList}
use Rattle.free_vars.specs.FreeVars.{distinct}

-- no variable is listed twice (01, "arena")
abbrev pub ListedOnce : Type 0
ListedOnce = (a : Arena) (root : ℕ) → distinct (free_type_vars a root) ≡ true

-- the variable v has a place in the type of the root
pub record VarPlace (a : Arena) (root v : ℕ) : Type 0 where
  pub node : ℕ
  pub reached : Reachable a root node
  pub is : tag (at a node) ≡ var v

-- a listed variable has one
abbrev pub ListedPlace : Type 0
ListedPlace =
    (table : ℕ) (a : Arena) → sound table a ≡ true → (root : ℕ) → root < length a → (v : ℕ) → contains (free_type_vars a root) v ≡ true
    → VarPlace a root v

-- and a variable with one is listed
abbrev pub PlaceListed : Type 0
PlaceListed =
    (table : ℕ) (a : Arena) → sound table a ≡ true → (root : ℕ) → root < length a → (v : ℕ) → VarPlace a root v
    → contains (free_type_vars a root) v ≡ true

-- an answer says what it was made from, whatever the array held, so that the contract fixes what it says by its cases
abbrev pub AnsweredOut : Type 0
AnsweredOut = (vars : List ℕ) (o : Out VarList) → lent_out (answered vars o).0 (answered vars o).1 ≡ o
