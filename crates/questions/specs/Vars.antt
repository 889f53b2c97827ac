-- Has the type of a root a variable, anywhere or outside lambdas' params? (01, "arena")
use Rattle.std.specs.Prelude.{ℕ, ◌<◌, ◌≤◌, Bool, true, false, ◌&&◌, ◌||◌, List, length, get_or, drop, eqb}
use Rattle.words.specs.Words.{bit}
use Rattle.types.specs.Kind as kinds
use Rattle.types.specs.Kind.{disc}
use Rattle.types.specs.Node.{Tag, tag, kind, children}
use Rattle.types.specs.Arena.{Arena, at, fold}
use Rattle.walks.specs.Reach.{some_of}

-- how many of the first children of a node of this kind are passed over: a lambda's param, if `skip` says so
abbrev pub passed_over : Bool → ℕ → ℕ
passed_over skip k = bit (skip && eqb k (disc kinds.lambda))

-- a node of this kind has a variable if it is one, or if a child has one that isn't passed over
abbrev pub kind_has : Bool → ℕ → List Bool → Bool
kind_has skip k bs = eqb k (disc kinds.ty_var) || some_of (drop (passed_over skip k) bs)

unfoldable pub has_var : Bool → Arena → ℕ → Bool
unfolding fold some_of
has_var skip = fold (λ (t : Tag) (bs : List Bool). kind_has skip (disc (kind t)) bs)

-- anywhere in the type
abbrev pub has_type_vars : Arena → ℕ → Bool
has_type_vars = has_var false

-- outside lambdas' params
abbrev pub contains_bare_tyvar : Arena → ℕ → Bool
contains_bare_tyvar = has_var true

-- a path of children from node n to node u that takes none that is passed over; the theorems `var_walk` and `walk_var` say the questions
-- with it
pub data Walk (skip : Bool) (a : Arena) : ℕ → ℕ → Type 0 where
  self : {n : ℕ} → Walk skip a n n
  down : {n u : ℕ} (i : ℕ) → passed_over skip (disc (kind (tag (at a n)))) ≤ i → i < length (children (at a n))
      → Walk skip a (get_or (children (at a n)) i 0) u → Walk skip a n u
