-- `normalize_vars` and `normalize_replacing_unknown` (01, "arena"): the variables of a type numbered in the order of a first visit.
use Rattle.std.specs.Prelude.{ℕ, Bool, true, false, Ok}
use mathlib.Core.List.{List, [], ◌∷◌}
use Rattle.std.proofs.Math.Option.{none, some}
use Rattle.types.specs.Tyvar.{unknown}
use Rattle.types.specs.Node.{tag}
use Rattle.types.specs.Arena.{at}
use Rattle.node_store.specs.Intern.{intern}
use Rattle.recursion.specs.Jobs.{Job}
use Rattle.free_vars.specs.FreeVars.{free_type_vars}
use Rattle.renumbering.specs.Renumbered.{var_number, var_node, renumbered}

module _ (words starts root : ℕ) where
  -- the type of the root, whose variables are these: without any it stays as it is
  unfoldable pub by_vars : List ℕ → Job
  unfolding renumbered
  by_vars [] a = Ok (root, a)
  by_vars (v ∷ vs) a = renumbered (v ∷ vs) words starts a root a

  -- the Rust's `normalize_vars`
  unfoldable pub normalize_vars : Job
  unfolding by_vars free_type_vars
  normalize_vars a = by_vars (free_type_vars a root) a

-- both calls: `normalize_replacing_unknown` makes a root that is a variable the unknown one
unfoldable pub normalize : Bool → ℕ → ℕ → ℕ → Job
unfolding normalize_vars intern at
normalize false words starts root a = normalize_vars words starts root a
normalize true words starts root a =
    elim (var_number (tag (at a root))) [ none ↦ normalize_vars words starts root a | some v ↦ intern words starts (var_node unknown) a ]
