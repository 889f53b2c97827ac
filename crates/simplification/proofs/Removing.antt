-- Which members a pass drops; in the polar form they are, among variables, those that the paper lets fall away.
use Prim.Native.Nat.{ℕ, ◌<◌}
use mathlib.Core.Path.{◌≡◌, refl, sym, ap, ◌∙◌, subst}
use mathlib.Core.Bool.{Bool, true, false}
use lib.ListN.{length, get_or}
use Rattle.types.specs.Node.{Polarity, positive, Tag, members, bound, var, neg, form, tag, children}
use Rattle.types.specs.Arena.{Arena, at}
use Rattle.types.specs.Places.{child_sign, Place, self, down, Occurs}
use Rattle.types.proofs.Tests.{true_false}
use Rattle.types.proofs.Walks.{place_join}
use Rattle.simplification.specs.Seen.{same_tag, one_signed}
use Rattle.simplification.specs.Pass.{var_of, is_removable}
use Rattle.simplification.specs.Theorems.{DropsAsPaper}
use Rattle.simplification.proofs.Answers.{same_tag_true}
use Rattle.simplification.proofs.Seeing.{one_signed_only, only_one_signed}

var_of_true : (R : ℕ → Bool) (t : Tag) → var_of R t ≡ true → (v : ℕ) × (t ≡ var v) × (R v ≡ true)
var_of_true R (members k) e = absurd (true_false (sym e))
var_of_true R (bound k) e = absurd (true_false (sym e))
var_of_true R (var v) e = (v, refl, e)
var_of_true R neg e = absurd (true_false (sym e))
var_of_true R (form f) e = absurd (true_false (sym e))

-- a removable member is a variable, or `Neg` of one
pub data Removable (R : ℕ → Bool) (a : Arena) (d : ℕ) : Type 0 where
  variable : (v : ℕ) → tag (at a d) ≡ var v → R v ≡ true → Removable R a d
  negated : (v : ℕ) → tag (at a d) ≡ neg → tag (at a (get_or (children (at a d)) 0 0)) ≡ var v → R v ≡ true → Removable R a d

module _ (R : ℕ → Bool) (a : Arena) (d : ℕ) where
  pub removable : is_removable R a d ≡ true → Removable R a d
  unfolding is_removable
  removable e = go (same_tag (tag (at a d)) neg) refl e
    where
      go : (b : Bool) → same_tag (tag (at a d)) neg ≡ b
          → elim b as (λ _. Bool) [ true ↦ var_of R (tag (at a (get_or (children (at a d)) 0 0))) | false ↦ var_of R (tag (at a d)) ] ≡ true → Removable R a d
      go true q e = let r = var_of_true R (tag (at a (get_or (children (at a d)) 0 0))) e in negated r.0 (same_tag_true _ _ q) r.1 r.2
      go false q e = let r = var_of_true R (tag (at a d)) e in variable r.0 r.1 r.2

  pub removable_var : (v : ℕ) → tag (at a d) ≡ var v → is_removable R a d ≡ R v
  unfolding is_removable same_tag
  removable_var v e = ap (λ (t : Tag). elim (same_tag t neg) as (λ _. Bool) [ true ↦ var_of R (tag (at a (get_or (children (at a d)) 0 0))) | false ↦ var_of R t ]) e

-- ---- the place of a member has its list's sign
pub member_place : {a : Arena} {root u : ℕ} {p : Polarity} (k : Polarity) → Place a root positive u p → tag (at a u) ≡ members k → (i : ℕ) → i < length (children (at a u)) → Place a root positive (get_or (children (at a u)) i 0) p
unfolding child_sign
member_place {a} {root} {u} {p} k q e i l =
    let s : child_sign (tag (at a u)) i p ≡ p = ap (λ (t : Tag). child_sign t i p) e in
    place_join q (subst (λ (t : Polarity). Place a u p (get_or (children (at a u)) i 0) t) s (down i l self))

-- the paper's removal: a pass drops a member that is a variable exactly if it falls away from lists of that kind
pub drops_as_paper : DropsAsPaper
drops_as_paper table a h root l polar u p k q e i j v w =
    let O : Occurs a root v k = record { number = get_or (children (at a u)) i 0; place = subst (Place a root positive (get_or (children (at a u)) i 0)) (polar.sides u p k q e) (member_place k q e i j); is = w } in
    let r = removable_var (one_signed a root) a (get_or (children (at a u)) i 0) v w in
    ((λ d. one_signed_only table a h root l v k (sym r ∙ d) O), (λ f. r ∙ only_one_signed table a h root l v k f))
