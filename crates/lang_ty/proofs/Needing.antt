-- `needs_var_normalization` is `has_type_vars`: a variable is listed exactly if a path of children leads to one.
use Prim.Native.Nat.{ℕ, ◌<◌}
use mathlib.Core.Path.{◌≡◌, refl, sym, ap}
use mathlib.Core.Bool.{true, false}
use mathlib.Core.List.{List, [], ◌∷◌}
use mathlib.Core.Logic.{◌⊎◌, inl, inr}
use lib.ListN.{length}
use borrow.Author.Tests.{eq-eqb, eqb-true}
use Rattle.types.specs.Kind.{disc}
use Rattle.types.specs.Node.{positive, tag, kind}
use Rattle.types.specs.Arena.{Arena, at, sound}
use Rattle.types.proofs.Tests.{true_false, same_truth}
use Rattle.node_reading.specs.Nodes.{is_var}
use Rattle.walks.proofs.Reaching.{or_right}
use Rattle.walks.proofs.Counting.{or_cases, or_left}
use Rattle.questions.specs.Vars as vars
use Rattle.questions.specs.Vars.{has_var, has_type_vars}
use Rattle.questions.proofs.Ways.{asked_alike}
use Rattle.questions.proofs.VarPlaces.{var_walk, walk_var, walk_place, place_walk}
use Rattle.free_vars.specs.FreeVars.{contains, free_type_vars}
use Rattle.free_vars.proofs.Occurrences.{kind_var}
use Rattle.free_vars.proofs.VarPlaces.{listed_place, place_listed}
use Rattle.lang_ty.specs.Needs.{some_listed, needs_var_normalization}
use Rattle.lang_ty.specs.Theorems.{NeedsIsHas}

-- ---- a list with something in it
listed_first : (l : List ℕ) → some_listed l ≡ true → (v : ℕ) × (contains l v ≡ true)
unfolding contains
listed_first [] e = absurd (true_false (sym e))
listed_first (v ∷ l) e = (v, or_left _ (contains l v) (eq-eqb v v refl))

listed_some : (l : List ℕ) (v : ℕ) → contains l v ≡ true → some_listed l ≡ true
unfolding contains
listed_some [] v e = absurd (true_false (sym e))
listed_some (x ∷ l) v e = refl

-- ---- in a sound arena
module _ (table : ℕ) (a : Arena) (h : sound table a ≡ true) (root : ℕ) (l : root < length a) where
  needed : needs_var_normalization a root ≡ true → has_type_vars a root ≡ true
  unfolding needs_var_normalization
  needed e = go (or_cases (is_var (at a root)) (some_listed (free_type_vars a root)) e)
    where
      go : (is_var (at a root) ≡ true) ⊎ (some_listed (free_type_vars a root) ≡ true) → has_var false a root ≡ true
      go (inl q) = walk_var false table a h vars.self l q
      go (inr q) =
          let v = listed_first (free_type_vars a root) q in
          let P = listed_place table a h root l v.0 v.1 in
          walk_var false table a h (place_walk P.reached.place) l (eq-eqb (disc (kind (tag (at a P.node)))) 3 (ap (λ t. disc (kind t)) P.is))

  has : has_type_vars a root ≡ true → needs_var_normalization a root ≡ true
  unfolding needs_var_normalization
  has e =
      let W = var_walk false table a h root l e in
      let P = walk_place W.path positive in
      let T = kind_var (tag (at a W.node)) (eqb-true (disc (kind (tag (at a W.node)))) 3 W.var) in
      let q = place_listed table a h root l T.number (record { node = W.node; reached = record { sign = P.0; place = P.1 }; is = T.is }) in
      or_right (is_var (at a root)) _ (listed_some (free_type_vars a root) T.number q)

  needs_is : needs_var_normalization a root ≡ has_type_vars a root
  needs_is = same_truth (needs_var_normalization a root) (has_type_vars a root) needed has

-- ---- also asked of any memory
pub needs_is_has : NeedsIsHas
needs_is_has = record {
  is = needs_is;
  answer = λ t w s c root. asked_alike t w s c root needs_var_normalization has_type_vars (λ table a H l. needs_is table a H.good root l);
}
