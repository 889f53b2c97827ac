-- A type with its variables numbered by their places in a list, without a cache.
use Rattle.std.specs.Prelude.{ℕ, suc, true, false, List, [], ◌∷◌, eqb, Err}
use Rattle.std.proofs.Math.Option.{Option, none, some}
use Rattle.types.specs.declared.refusal.Refusal.TheVariants as refusal
use Rattle.types.specs.Node.{Tag, members, bound, var, neg, form, Node, node, tag, children}
use Rattle.types.specs.Arena.{Arena, rec}
use Rattle.node_store.specs.Intern.{intern}
use Rattle.recursion.specs.Jobs.{Job, rebuild}

-- the place of v in a list; how many there are, if it has none
unfoldable pub index : List ℕ → ℕ → ℕ
index [] v = 0
index (x ∷ l) v = elim (eqb x v) [ true ↦ 0 | false ↦ suc (index l v) ]

-- the number of a variable; other nodes have none
abbrev pub var_number : Tag → Option ℕ
var_number (members k) = none
var_number (bound k) = none
var_number (var v) = some v
var_number neg = none
var_number (form f) = none

-- the node of a variable
abbrev pub var_node : ℕ → Node
var_node v = node (var v) []

module _ (vars : List ℕ) (words starts : ℕ) where
  -- a variable becomes the variable of its place in the list; of any other node the children are renumbered from left to right, then the
  -- node is interned
  unfoldable pub renumber_step : Arena → Node → (ℕ → Job) → Job
  unfolding rebuild intern index
  renumber_step s x f a = elim (var_number (tag x)) [
    | none ↦ rebuild words starts (tag x) (children x) f a
    | some v ↦ intern words starts (var_node (index vars v)) a
  ]

  -- node n of the arena s, renumbered in an arena that grew from s
  unfoldable pub renumbered : Arena → ℕ → Job
  unfolding rec renumber_step
  renumbered = rec renumber_step (λ a. Err refusal.NoSuchRoot)
