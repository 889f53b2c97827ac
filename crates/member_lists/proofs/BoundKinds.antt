-- The number of its kind tells a member list, and a bound, from every other node. The kinds of a list's bounds.
use Prim.Native.Nat.{ℕ}
use mathlib.Core.Path.{◌≡◌, refl, sym, ap, ◌∙◌, subst}
use mathlib.Core.Bool.{true, false, ◌||◌}
use mathlib.Core.List.{List}
use mathlib.Core.Logic.{⊎_elim}
use mathlib.Core.Option.{Option, none, some}
use native.Mathlib.Omega.{arith}
use lib.Dec.{eqb}
use borrow.Author.Tests.{eqb-true}
use Rattle.types.specs.Kind as kinds
use Rattle.types.specs.Kind.{Kind, disc, kind_of}
use Rattle.types.specs.Node.{Polarity, positive, negative, Tag, members, bound, var, neg, form, primitive, list, lambda, attrset, named, kind}
use Rattle.types.specs.Places.{opposite}
use Rattle.types.specs.declared.Counters.{Counters}
use Rattle.types.proofs.KindNumbers.{kind_of_disc}
use Rattle.types.proofs.Tests.{true_false}
use Rattle.node_store.specs.Inner.Stored.{InRange}
use Rattle.node_reading.specs.Inner.{KindAt}
use Rattle.simplification.specs.Pass.{list_kind}
use Rattle.simplification.proofs.Answers.{or_true}
use Rattle.member_lists.specs.Inner.Members.{NeutralOf, DecidingOf}

-- the only tag of a kind, where the tag is a member list's or a bound's
only_tag : Kind → Option Tag
only_tag kinds.bottom = some (bound positive)
only_tag kinds.top = some (bound negative)
only_tag kinds.primitive = none
only_tag kinds.ty_var = none
only_tag kinds.list = none
only_tag kinds.lambda = none
only_tag kinds.attr_set = none
only_tag kinds.union = some (members positive)
only_tag kinds.intersection = some (members negative)
only_tag kinds.named = none
only_tag kinds.neg = none

only_is : (t u : Tag) → only_tag (kind t) ≡ some u → t ≡ u
unfolding only_tag
only_is (members positive) u e = cc
only_is (members negative) u e = cc
only_is (bound positive) u e = cc
only_is (bound negative) u e = cc
only_is (var v) u e = let z : ◌≡◌ {A = ℕ} 0 1 = cc in absurd (omega arith)
only_is neg u e = let z : ◌≡◌ {A = ℕ} 0 1 = cc in absurd (omega arith)
only_is (form (primitive c)) u e = let z : ◌≡◌ {A = ℕ} 0 1 = cc in absurd (omega arith)
only_is (form list) u e = let z : ◌≡◌ {A = ℕ} 0 1 = cc in absurd (omega arith)
only_is (form lambda) u e = let z : ◌≡◌ {A = ℕ} 0 1 = cc in absurd (omega arith)
only_is (form (attrset fs d o)) u e = let z : ◌≡◌ {A = ℕ} 0 1 = cc in absurd (omega arith)
only_is (form (named n)) u e = let z : ◌≡◌ {A = ℕ} 0 1 = cc in absurd (omega arith)

told : (t u : Tag) → only_tag (kind u) ≡ some u → disc (kind t) ≡ disc (kind u) → t ≡ u
told t u h e =
    let q : ◌≡◌ {A = Option Kind} (some (kind t)) (some (kind u)) = sym (kind_of_disc (kind t)) ∙ ap kind_of e ∙ kind_of_disc (kind u) in
    let same : kind t ≡ kind u = cc in
    only_is t u (ap only_tag same ∙ h)

pub list_told : (t : Tag) (k : Polarity) → disc (kind t) ≡ disc (kind (members k)) → t ≡ members k
unfolding only_tag
list_told t positive e = told t (members positive) refl e
list_told t negative e = told t (members negative) refl e

pub bound_told : (t : Tag) (k : Polarity) → disc (kind t) ≡ disc (kind (bound k)) → t ≡ bound k
unfolding only_tag
bound_told t positive e = told t (bound positive) refl e
bound_told t negative e = told t (bound negative) refl e

-- the tags of kind 7 and 8 are those of member lists
pub list_tag : (t : Tag) → (eqb (disc (kind t)) 7 || eqb (disc (kind t)) 8) ≡ true → (k : Polarity) × (t ≡ members k)
list_tag t e =
    ⊎_elim (λ q. (positive, list_told t positive (eqb-true (disc (kind t)) 7 q))) (λ q. (negative, list_told t negative (eqb-true (disc (kind t)) 8 q)))
    (or_true (eqb (disc (kind t)) 7) (eqb (disc (kind t)) 8) e)

pub other_tag : (t : Tag) → (eqb (disc (kind t)) 7 || eqb (disc (kind t)) 8) ≡ false → list_kind t ≡ none
other_tag (members positive) e = absurd (true_false e)
other_tag (members negative) e = absurd (true_false e)
other_tag (bound k) e = refl
other_tag (var v) e = refl
other_tag neg e = refl
other_tag (form f) e = refl

-- ---- the side of a kind of list
module _ (number : ℕ) where
  union_side : number ≡ 7 → (k : Polarity) → number ≡ disc (kind (members k)) → positive ≡ k
  union_side e positive q = refl
  union_side e negative q = absurd (omega arith)

  other_side : (number ≡ 7 → ⊥) → (k : Polarity) → number ≡ disc (kind (members k)) → negative ≡ k
  other_side f positive q = absurd (f q)
  other_side f negative q = refl

  pub neutral_union : number ≡ 7 → NeutralOf number 0
  neutral_union e = record { is = λ k q. ap (λ (k : Polarity). disc (kind (bound k))) (union_side e k q) }

  pub neutral_other : (number ≡ 7 → ⊥) → NeutralOf number 1
  neutral_other f = record { is = λ k q. ap (λ (k : Polarity). disc (kind (bound k))) (other_side f k q) }

  pub deciding_union : number ≡ 7 → DecidingOf number 1
  deciding_union e = record { is = λ k q. ap (λ (k : Polarity). disc (kind (bound (opposite k)))) (union_side e k q) }

  pub deciding_other : (number ≡ 7 → ⊥) → DecidingOf number 0
  deciding_other f = record { is = λ k q. ap (λ (k : Polarity). disc (kind (bound (opposite k)))) (other_side f k q) }

-- ---- the kind of a member
pub range_wide : {w s : List ℕ} {c : Counters} {m n : ℕ} → m ≡ n → InRange w s c n → InRange w s c m
range_wide {w} {s} {c} e R = subst (InRange w s c) (sym e) R

pub kind_wide : {w s : List ℕ} {c : Counters} {m n r : ℕ} → m ≡ n → KindAt w s c m r → KindAt w s c n r
kind_wide {w} {s} {c} {r = r} e K = subst (λ (i : ℕ). KindAt w s c i r) e K
