-- A refusal of `normalize_vars`, `normalize_replacing_unknown`, `normalize_set_ops` and of a copy has a number from 1 to 10.
use Prim.Native.Nat.{ℕ}
use native.Mathlib.Omega.{arith}
use mathlib.Core.Bool.{Bool, true, false}
use mathlib.Core.List.{List, [], ◌∷◌}
use lib.ListN.{length, get_or}
use lib.Dec.{eqb}
use Rattle.types.specs.Node.{Polarity, members, Node, node, tag, children}
use Rattle.types.specs.Arena.{Arena, at}
use Rattle.recursion.specs.Jobs.{Job}
use Rattle.free_vars.specs.FreeVars.{free_type_vars}
use Rattle.renumbering.specs.Renumbered.{index, var_number, var_node, renumber_step, renumbered}
use Rattle.types.specs.Tyvar.{unknown}
use Rattle.renumber.specs.Renumber.{by_vars, normalize_vars, normalize}
use Rattle.simplification.specs.Pass.{list_kind}
use Rattle.member_sorting.specs.Sort.{sort}
use Rattle.set_op_lists.specs.SetOps.{brings, flatten_set_op, stand_for, set_ops_step, normalize_set_ops, normalize as normalize-lists}
use Rattle.copying.specs.Copy.{copy}
use Rattle.lang_ty.specs.Numbered.{Numbered, value, refusal}
use Rattle.lang_ty.proofs.Numbers.{NumberedJob, by_test, by_option, then_numbered, rec_all, intern_numbered, rebuild_numbered}
use Rattle.lang_ty.proofs.Passes.{first_copies_numbered}

-- ---- the members of a list, appended as they come: 8
flatten_numbered : (k : Polarity) (f : ℕ → Job) → ((n : ℕ) → NumberedJob (f n)) → (acc cs : List ℕ) (a : Arena) → Numbered (flatten_set_op k f acc cs a)
unfolding flatten_set_op
flatten_numbered k f h acc [] a = value (acc, a)
flatten_numbered k f h acc (c ∷ cs) a = then_numbered (h c a) (λ r. then_numbered (first_copies_numbered acc (brings k r.0 (at r.1 r.0))) (λ l. flatten_numbered k f h l cs r.1))

module _ (words starts : ℕ) where
  -- ---- variables by their places in a list
  renumber_step_numbered : (vars : List ℕ) (s : Arena) (x : Node) (f : ℕ → Job) → ((n : ℕ) → NumberedJob (f n)) → NumberedJob (renumber_step vars words starts s x f)
  unfolding renumber_step
  renumber_step_numbered vars s x f h a = by_option Numbered (var_number (tag x)) (λ v. intern_numbered words starts (var_node (index vars v)) a) (rebuild_numbered words starts (tag x) (children x) (λ c _. h c) a)

  by_vars_numbered : (root : ℕ) (vars : List ℕ) → NumberedJob (by_vars words starts root vars)
  unfolding by_vars renumbered
  by_vars_numbered root [] a = value (root, a)
  by_vars_numbered root (v ∷ vs) a = rec_all NumberedJob (λ b. refusal (omega arith) (omega arith)) (renumber_step_numbered (v ∷ vs)) a root a

  normalize_vars_numbered : (root : ℕ) → NumberedJob (normalize_vars words starts root)
  unfolding normalize_vars
  normalize_vars_numbered root a = by_vars_numbered root (free_type_vars a root) a

  pub normalize_numbered : (replacing : Bool) (root : ℕ) → NumberedJob (normalize replacing words starts root)
  unfolding normalize
  normalize_numbered false root a = normalize_vars_numbered root a
  normalize_numbered true root a = by_option Numbered (var_number (tag (at a root))) (λ v. intern_numbered words starts (var_node unknown) a) (normalize_vars_numbered root a)

  -- ---- lists flattened and sorted
  stand_for_numbered : (k : Polarity) (ms : List ℕ) → NumberedJob (stand_for words starts k ms)
  unfolding stand_for
  stand_for_numbered k ms a = by_test Numbered (eqb (length ms) 1) (value (get_or ms 0 0, a)) (intern_numbered words starts (node (members k) ms) a)

  set_ops_step_numbered : (s : Arena) (x : Node) (f : ℕ → Job) → ((n : ℕ) → NumberedJob (f n)) → NumberedJob (set_ops_step words starts s x f)
  unfolding set_ops_step
  set_ops_step_numbered s x f h a =
      by_option Numbered (list_kind (tag x)) (λ k. then_numbered (flatten_numbered k f h [] (children x) a) (λ r. stand_for_numbered k (sort r.1 r.0) r.1)) (rebuild_numbered words starts (tag x) (children x) (λ c _. h c) a)

  pub set_ops_numbered : (root : ℕ) → NumberedJob (normalize_set_ops words starts root)
  unfolding normalize_set_ops normalize-lists
  set_ops_numbered root a = rec_all NumberedJob (λ b. refusal (omega arith) (omega arith)) set_ops_step_numbered a root a

  -- ---- a copy
  pub copy_numbered : (u : Arena) (root : ℕ) → NumberedJob (copy words starts u root)
  unfolding copy
  copy_numbered u root = rec_all NumberedJob (λ b. refusal (omega arith) (omega arith)) (λ s x f h. rebuild_numbered words starts (tag x) (children x) (λ c _. h c)) u root
