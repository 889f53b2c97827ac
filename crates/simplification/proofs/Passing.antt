-- What one pass keeps, from the type that it takes to the one that it leaves: the polar form, the set under readings that fit, and every occurrence comes from one of the same sign.
use Prim.Native.Nat.{ℕ, ◌<◌, ◌≤◌, Fin}
use mathlib.Core.Path.{◌≡◌, refl, sym, ap, ◌∙◌, subst, fun_ext}
use mathlib.Core.Bool.{Bool, true, not, xor}
use mathlib.Core.List.Memᴰ.{head}
use mathlib.Core.List.{List, [], ◌∷◌, map}
use native.Mathlib.Omega.{arith}
use lib.ListN.{length, get_or}
use Rattle.std.specs.Prelude.{Ok}
use Rattle.types.specs.Node.{Polarity, positive, negative, Tag, var, neg, tag, children}
use Rattle.types.specs.Arena.{Arena, at, sound, Ext, here}
use Rattle.types.specs.Places.{opposite, child_sign, Place, self, down, Polar, Occurs}
use Rattle.types.proofs.Growth.{ext_length, ext_at}
use Rattle.types.proofs.Sound.{ext_fold}
use Rattle.types.proofs.Walks.{place_join, place_lower, place_kept, place_old}
use Rattle.recursion.proofs.Interning.{node_is}
use Rattle.recursion.proofs.Members.{index_of}
use Rattle.simplification.specs.Seen.{sees_node, sees, one_signed}
use Rattle.simplification.specs.Removal.{OccursOnly}
use Rattle.simplification.specs.Pass.{pass}
use Rattle.simplification.specs.Passes.{Taken}
use Rattle.simplification.specs.Reading.{Reading, in_bound, in_neg, set_of}
use Rattle.simplification.specs.Demand.{ReadingFits}
use Rattle.simplification.proofs.Becoming.{becomes_inside}
use Rattle.simplification.proofs.Rebuilding.{has_negated}
use Rattle.simplification.proofs.Running.{Run, apply_runs}
use Rattle.simplification.proofs.Seeing.{one_signed_only}
use Rattle.simplification.proofs.Removing.{Removable, variable, negated, removable, member_place}
use Rattle.simplification.proofs.Tracing.{traced}
use Rattle.simplification.proofs.Shaping.{InShape, in_shape}
use Rattle.simplification.proofs.Meaning.{set_kept, set_at, Safe, meaning}

other_side : (p : Polarity) → not (in_bound (opposite p)) ≡ in_bound p
other_side positive = refl
other_side negative = refl

-- ---- in the polar form each member that a pass drops is neutral, under a reading that is empty or full where the pass sees one sign only
module _ (r : Reading) (table : ℕ) (a : Arena) (g : sound table a ≡ true) (root : ℕ) (l : root < length a) (polar : Polar a root)
    (seen : (v : ℕ) (p : Polarity) → OccursOnly a root v p → (x : Fin r.marks) → r.vars v x ≡ in_bound p) where
  inside : {u : ℕ} {p : Polarity} → Place a root positive u p → u < length a
  inside q = let k = place_lower table a g q l in omega arith

  -- a removable variable
  var_set : (v d : ℕ) (p : Polarity) → Place a root positive d p → tag (at a d) ≡ var v → one_signed a root v ≡ true → (x : Fin r.marks) → set_of r a d x ≡ in_bound p
  var_set v d p q e o x =
      (λ i. set_at r table a g (record { inside = inside q; is = node_is (at a d) e }) i x)
      ∙ seen v p (one_signed_only table a g root l v p o (record { number = d; place = q; is = e })) x

  -- `Neg` of one
  neg_set : (v d : ℕ) (p : Polarity) → Place a root positive d p → tag (at a d) ≡ neg → tag (at a (get_or (children (at a d)) 0 0)) ≡ var v → one_signed a root v ≡ true → (x : Fin r.marks) → set_of r a d x ≡ in_bound p
  unfolding child_sign
  neg_set v d p q e f o x =
      let n = has_negated table a g d (inside q) e in
      let s : child_sign (tag (at a d)) 0 p ≡ opposite p = ap (λ (t : Tag). child_sign t 0 p) e in
      let c = place_join q (subst (λ (t : Polarity). Place a d p (get_or (children (at a d)) 0 0) t) s (down 0 n self)) in
      (λ i. set_at r table a g (record { inside = inside q; is = node_is (at a d) e }) i x)
      ∙ first (children (at a d)) n ∙ ap not (var_set v (get_or (children (at a d)) 0 0) (opposite p) c f o x) ∙ other_side p
    where
      first : (cs : List ℕ) → 0 < length cs → in_neg (map (set_of r a) cs) x ≡ not (set_of r a (get_or cs 0 0) x)
      first [] n = absurd (omega arith)
      first (c ∷ cs) n = refl

  pub polar_safe : Safe r table a g (one_signed a root) root
  polar_safe = record {
    sign = positive;
    neutral = λ u p q k e d i b x.
        let j = index_of i in
        let w = subst (λ (d : ℕ). Place a root positive d p) j.is (member_place k q e j.index j.inside) in
        go d p w x (removable (one_signed a root) a d b) ∙ ap in_bound (polar.sides u p k q e);
  }
    where
      go : (d : ℕ) (p : Polarity) → Place a root positive d p → (x : Fin r.marks) → Removable (one_signed a root) a d → set_of r a d x ≡ in_bound p
      go d p w x (variable v e o) = var_set v d p w e o x
      go d p w x (negated v e f o) = neg_set v d p w e f o x

-- ---- the type of n in an arena that grew
module _ (table : ℕ) (a b : Arena) (g : sound table a ≡ true) (ext : Ext a b) (n : ℕ) (l : n < length a) where
  -- a place in the grown arena is one in the old, with the same node
  old_place : {s : Polarity} {u : ℕ} {p : Polarity} → Place b n s u p → Place a n s u p × (at b u ≡ at a u)
  old_place {u = u} q = let o = place_old table a b g ext q l in let k = place_lower table a g o l in (o, ext_at a b ext u (omega arith))

  polar_kept : Polar a n → Polar b n
  polar_kept h = record { sides = λ u p k q e. let o = old_place q in h.sides u p k o.0 (sym (ap tag o.1) ∙ e) }

  occurs_old : (v : ℕ) (p : Polarity) → Occurs b n v p → Occurs a n v p
  occurs_old v p O = let o = old_place O.place in record { number = O.number; place = o.0; is = sym (ap tag o.1) ∙ O.is }

  occurs_kept : (v : ℕ) (p : Polarity) → Occurs a n v p → Occurs b n v p
  occurs_kept v p O =
      let k = place_lower table a g O.place l in
      record { number = O.number; place = place_kept table a b g ext O.place l; is = ap tag (ext_at a b ext O.number (omega arith)) ∙ O.is }

  only_old : (v : ℕ) (p : Polarity) → OccursOnly b n v p → OccursOnly a n v p
  only_old v p O = record { there = occurs_old v p O.there; nowhere_else = λ N. O.nowhere_else (occurs_kept v (opposite p) N) }

  sees_kept : (v : ℕ) (p : Polarity) → sees b n positive v p ≡ sees a n positive v p
  unfolding sees
  sees_kept v p = λ i. ext_fold (sees_node v p) a b ext n l i positive

  pub one_signed_kept : one_signed b n ≡ one_signed a n
  unfolding one_signed
  one_signed_kept = fun_ext (λ v. λ i. xor (sees_kept v positive i) (sees_kept v negative i))

-- ---- from one type to another
pub record Kept (taken : List Taken) (a : Arena) (n : ℕ) (b : Arena) (m : ℕ) : Type 0 where
  pub polar : Polar a n → Polar b m
  pub same_set : Polar a n → (r : Reading) → ReadingFits r taken → set_of r a n ≡ set_of r b m
  pub occurs : (v : ℕ) (p : Polarity) → Occurs b m v p → Occurs a n v p

-- a finished pass
pub record Passed (table : ℕ) (n : ℕ) (a : Arena) (m : ℕ) (b : Arena) : Type 0 where
  pub good : sound table b ≡ true
  pub inside : m < length b
  pub shape : InShape b m
  pub kept : Kept (record { root = n; arena = a } ∷ []) a n b m

module _ (table n : ℕ) (a : Arena) (g : sound table a ≡ true) (l : n < length a) (m : ℕ) (b : Arena) (R : Run table (one_signed a n) a n m b) where
  -- every place comes from one in the type that the pass took
  from : {u : ℕ} {p : Polarity} → Place b m positive u p → (w : ℕ) × Place a n positive w p × (tag (at a w) ≡ tag (at b u))
  from {u} {p} q =
      let O = traced b R.becomes positive u p q in
      let o = old_place table a b g R.ext n l O.place in
      (O.number, o.0, sym (ap tag o.1) ∙ O.same)

  same_set : Polar a n → (r : Reading) → ReadingFits r (record { root = n; arena = a } ∷ []) → set_of r a n ≡ set_of r b m
  same_set h r F =
      let k : n < length b = omega (arith, ext_length a b R.ext) in
      let S = polar_safe r table b R.good n k (polar_kept table a b g R.ext n l h) (λ v p O. F.as_seen (record { root = n; arena = a }) (head refl) v p (only_old table a b g R.ext n l v p O)) in
      sym (set_kept r a b R.ext n l)
      ∙ sym (meaning r table b R.good R.becomes (subst (λ (W : ℕ → Bool). Safe r table b R.good W n) (one_signed_kept table a b g R.ext n l) S))

  run_passed : Passed table n a m b
  run_passed = record {
    good = R.good;
    inside = becomes_inside R.becomes;
    shape = in_shape b R.becomes;
    kept = record {
      polar = λ h. record { sides = λ u p k q e. let o = from q in h.sides o.0 p k o.1 (o.2 ∙ e) };
      same_set = same_set;
      occurs = λ v p O. let o = from O.place in record { number = o.0; place = o.1; is = o.2 ∙ O.is };
    };
  }

pub passed : (words starts table : ℕ) → starts ≤ 4096 → (n : ℕ) (a : Arena) → sound table a ≡ true → n < length a → (m : ℕ) (b : Arena) → pass words starts n a ≡ Ok (m, b) → Passed table n a m b
unfolding pass
passed words starts table few n a g l m b e = run_passed table n a g l m b (apply_runs words starts table few (one_signed a n) a a b n m here g l e)
