-- Which members are dropped: a node's kind, and the bit of a variable's node, say what the definition says.
use Prim.Native.Nat.{ℕ}
use mathlib.Core.Path.{◌≡◌, refl, sym, ap, ◌∙◌}
use mathlib.Core.Bool.{Bool, true, false, ◌&&◌}
use mathlib.Core.List.{List}
use native.Mathlib.Omega.{arith}
use lib.ListN.{get_or}
use lib.Dec.{eqb}
use borrow.Author.Tests.{eq-eqb, ne_eqb}
use Rattle.types.specs.Kind.{disc}
use Rattle.types.specs.Node.{positive, negative, primitive, list, lambda, attrset, named, Tag, members, bound, var, neg, form, tag, kind, children}
use Rattle.types.specs.Arena.{Arena, at}
use Rattle.types.specs.declared.Counters.{Counters}
use Rattle.bits.specs.Bits.{has}
use Rattle.node_store.specs.Inner.Stored.{InRange}
use Rattle.node_reading.specs.Inner.{KindAt, ParentAt, FirstChild}
use Rattle.node_reading.proofs.NodeReads.{first_lower, first_range}
use Rattle.simplification.specs.Seen.{same_tag}
use Rattle.simplification.specs.Pass.{no_variable, var_of, is_removable}
use Rattle.rebuilding.specs.Inner.Children.{RemovesVar, Removes, Drops}

-- ---- kinds
by_var : (R : ℕ → Bool) (t : Tag) (b : Bool) → ((v : ℕ) → t ≡ var v → b ≡ R v) → (eqb (disc (kind t)) 3 && b) ≡ var_of R t
by_var R (members positive) b f = refl
by_var R (members negative) b f = refl
by_var R (bound positive) b f = refl
by_var R (bound negative) b f = refl
by_var R (var v) b f = f v refl
by_var R neg b f = refl
by_var R (form (primitive c)) b f = refl
by_var R (form list) b f = refl
by_var R (form lambda) b f = refl
by_var R (form (attrset fs d o)) b f = refl
by_var R (form (named n)) b f = refl

by_neg : (t : Tag) → same_tag t neg ≡ eqb (disc (kind t)) 10
unfolding same_tag
by_neg (members positive) = refl
by_neg (members negative) = refl
by_neg (bound positive) = refl
by_neg (bound negative) = refl
by_neg (var v) = refl
by_neg neg = refl
by_neg (form (primitive c)) = refl
by_neg (form list) = refl
by_neg (form lambda) = refl
by_neg (form (attrset fs d o)) = refl
by_neg (form (named n)) = refl

removable_by : (R : ℕ → Bool) (a : Arena) (m : ℕ) → is_removable R a m ≡ elim (eqb (disc (kind (tag (at a m)))) 10) as (λ _. Bool) [ true ↦ var_of R (tag (at a (get_or (children (at a m)) 0 0))) | false ↦ var_of R (tag (at a m)) ]
unfolding is_removable
removable_by R a m = rw (is_removable, by_neg (tag (at a m)))

-- where no variable is removable nothing is
no_var : (t : Tag) → var_of no_variable t ≡ false
no_var t = sym (by_var no_variable t false (λ v e. refl)) ∙ never (eqb (disc (kind t)) 3)
  where
    never : (b : Bool) → (b && false) ≡ false
    never true = refl
    never false = refl

pub none_removable : (a : Arena) (m : ℕ) → is_removable no_variable a m ≡ false
none_removable a m = removable_by no_variable a m ∙ either (eqb (disc (kind (tag (at a m)))) 10)
  where
    either : (b : Bool) → elim b as (λ _. Bool) [ true ↦ var_of no_variable (tag (at a (get_or (children (at a m)) 0 0))) | false ↦ var_of no_variable (tag (at a m)) ] ≡ false
    either true = no_var (tag (at a (get_or (children (at a m)) 0 0)))
    either false = no_var (tag (at a m))

-- ---- a variable of the set
module _ {w s : List ℕ} {c : Counters} {m k : ℕ} {removable : List ℕ} (K : KindAt w s c m k) where
  pub other_kind : (k ≡ 3 → ⊥) → RemovesVar w s c m removable false
  other_kind f = record {
    is = λ table a R n H A l.
        let e = sym (K.is table a H) in
        rw (e, ne_eqb k 3 f) at (by_var R (tag (at a m)) false (λ v q. absurd (f (sym e ∙ ap (λ (t : Tag). disc (kind t)) q))));
  }

  pub its_bit : {r : Bool} → k ≡ 3 → r ≡ has removable m → RemovesVar w s c m removable r
  its_bit {r} e b = record {
    is = λ table a R n H A l. rw (sym (K.is table a H), eq-eqb k 3 e) at (by_var R (tag (at a m)) r (λ v q. b ∙ A.is m v l q));
  }

-- ---- a member: itself, or what its `Neg` has; i is m as a number of another width
module _ {w s : List ℕ} {c : Counters} {m i k : ℕ} (I : InRange w s c m) (j : i ≡ m) (K : KindAt w s c i k) where
  kind_is : KindAt w s c m k
  kind_is = rw j at K

  parent_m : k ≡ 10 → ParentAt w s c m
  parent_m e = record { lent = I.lent; inside = I.inside; number = k; kind = kind_is; parent = rw e }

  pub neg_parent : k ≡ 10 → ParentAt w s c i
  neg_parent e = rw j (parent_m e)

  module _ (e : k ≡ 10) {d : ℕ} (F : FirstChild w s c i d) where
    first_m : FirstChild w s c m d
    first_m = rw j at F

    pub negated_here : InRange w s c d
    negated_here = first_range (parent_m e) first_m

    pub negated_decides : {removable : List ℕ} {r : Bool} → RemovesVar w s c d removable r → Removes w s c m removable r
    negated_decides D = record {
      is = λ table a R n H A l.
          let q = first_m.is table a H in
          let p = first_lower (parent_m e) H in
          D.is table a R n H A (omega (arith, p, q, l))
          ∙ ap (λ (x : ℕ). var_of R (tag (at a x))) q
          ∙ sym (removable_by R a m ∙ rw (sym (kind_is.is table a H), eq-eqb k 10 e));
    }

  pub itself_decides : {removable : List ℕ} {r : Bool} → (k ≡ 10 → ⊥) → RemovesVar w s c i removable r → Removes w s c m removable r
  itself_decides f D = record {
    is = λ table a R n H A l. (rw j at D).is table a R n H A l ∙ sym (removable_by R a m ∙ rw (sym (kind_is.is table a H), ne_eqb k 10 f));
  }

-- ---- where `keep` says so, none is
module _ {w s : List ℕ} {c : Counters} {m : ℕ} {removable : List ℕ} where
  pub none_dropped : {keep : Bool} → keep ≡ true → Drops w s c m removable keep false
  none_dropped e = record { is = λ table a R n H A l. rw e (sym (none_removable a m)) }

  pub tested : {keep r : Bool} → keep ≡ false → Removes w s c m removable r → Drops w s c m removable keep r
  tested e D = record { is = λ table a R n H A l. rw e (D.is table a R n H A l) }
