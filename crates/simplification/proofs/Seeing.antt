-- The computed tests for a variable's signs say what places say.
use Prim.Native.Nat.{ℕ, zero, suc, ◌<◌, zero-le, suc-le-suc}
use mathlib.Core.Path.{◌≡◌, refl, sym, ◌∙◌, subst}
use mathlib.Core.Bool.{Bool, true, false, ◌&&◌}
use mathlib.Core.List.{List, [], ◌∷◌, map}
use mathlib.Core.Logic.{◌⊎◌, inl, inr}
use native.Mathlib.Omega.{arith}
use native.Mathlib.Nat.{le_of_suc-le-suc, not-suc-le-zero}
use lib.ListN.{length, get_or}
use Rattle.types.specs.Same.{same}
use Rattle.types.specs.Node.{Polarity, positive, negative, Polarity-dec, var, tag, children}
use Rattle.types.specs.Arena.{Arena, at, fold, sound}
use Rattle.types.specs.Places.{opposite, child_sign, Place, self, down, Has, Occurs}
use Rattle.types.proofs.Tests.{true_false, and_true, both, not_true, same_true, same_if}
use Rattle.types.proofs.Sound.{child_lower, fold_at}
use Rattle.simplification.specs.Seen.{same_tag, some_child, sees_node, sees, one_signed}
use Rattle.simplification.specs.Theorems.{SeesPlaces, OneSignedOnly, OnlyOneSigned}
use Rattle.simplification.proofs.Answers.{same_tag_true, same_tag_if, or_true, or_left, or_right}

-- ---- one of the children
module _ (f : ℕ → Polarity → Bool) where
  child_if : (sign : ℕ → Polarity) (cs : List ℕ) (j : ℕ) → j < length cs → f (get_or cs j 0) (sign j) ≡ true → some_child sign (map f cs) ≡ true
  unfolding some_child
  child_if sign [] j l e = absurd (not-suc-le-zero l)
  child_if sign (c ∷ cs) zero l e = or_left (f c (sign zero)) (some_child (λ i. sign (suc i)) (map f cs)) e
  child_if sign (c ∷ cs) (suc j) l e = or_right (f c (sign zero)) (some_child (λ i. sign (suc i)) (map f cs)) (child_if (λ i. sign (suc i)) cs j (le_of_suc-le-suc l) e)

  child_true : (sign : ℕ → Polarity) (cs : List ℕ) → some_child sign (map f cs) ≡ true → (j : ℕ) × (j < length cs) × (f (get_or cs j 0) (sign j) ≡ true)
  unfolding some_child
  child_true sign [] e = absurd (true_false (sym e))
  child_true sign (c ∷ cs) e = go (or_true (f c (sign zero)) (some_child (λ i. sign (suc i)) (map f cs)) e) (child_true (λ i. sign (suc i)) cs)
    where
      go : (f c (sign zero) ≡ true) ⊎ (some_child (λ i. sign (suc i)) (map f cs) ≡ true) → (some_child (λ i. sign (suc i)) (map f cs) ≡ true → (j : ℕ) × (j < length cs) × (f (get_or cs j 0) (sign (suc j)) ≡ true))
          → (j : ℕ) × (j < length (c ∷ cs)) × (f (get_or (c ∷ cs) j 0) (sign j) ≡ true)
      go (inl q) h = (zero, suc-le-suc zero-le, q)
      go (inr q) h = let r = h q in (suc r.0, suc-le-suc r.1, r.2)

-- ---- seen, and there
module _ (table : ℕ) (a : Arena) (h : sound table a ≡ true) (v : ℕ) (p : Polarity) where
  sees_at : (n : ℕ) → n < length a → (s : Polarity) → sees a n s v p ≡ sees_node v p (tag (at a n)) (map (fold (sees_node v p) a) (children (at a n))) s
  unfolding sees
  sees_at n l s = λ i. fold_at (sees_node v p) table a h n l i s

  -- the two ways in which a node passes
  here_if : (n : ℕ) → n < length a → tag (at a n) ≡ var v → sees a n p v p ≡ true
  here_if n l e = sees_at n l p ∙ or_left (same_tag (tag (at a n)) (var v) && same Polarity-dec p p) _ (both (same_tag_if _ _ e) (same_if Polarity-dec p p refl))

  there_if : (n : ℕ) → n < length a → (s : Polarity) (i : ℕ) → i < length (children (at a n)) → sees a (get_or (children (at a n)) i 0) (child_sign (tag (at a n)) i s) v p ≡ true → sees a n s v p ≡ true
  unfolding sees
  there_if n l s i k e = sees_at n l s ∙ or_right (same_tag (tag (at a n)) (var v) && same Polarity-dec s p) _ (child_if (fold (sees_node v p) a) (λ i. child_sign (tag (at a n)) i s) (children (at a n)) i k e)

  place_sees : {n u : ℕ} {s : Polarity} → Place a n s u p → n < length a → tag (at a u) ≡ var v → sees a n s v p ≡ true
  place_sees (self {n = n}) l e = here_if n l e
  place_sees (down {n = n} {s = s} i k q) l e = there_if n l s i k (place_sees q (let c = child_lower table a h n l i k in omega arith) e)

  bounded_place : (j n : ℕ) → n < j → n < length a → (s : Polarity) → sees a n s v p ≡ true → Has a n s v p
  unfolding sees
  bounded_place zero n b l s e = absurd (omega arith)
  bounded_place (suc j) n b l s e =
      go (or_true (same_tag (tag (at a n)) (var v) && same Polarity-dec s p) _ (sym (sees_at n l s) ∙ e))
      (λ i k. let c = child_lower table a h n l i k in bounded_place j (get_or (children (at a n)) i 0) (omega arith) (omega arith) (child_sign (tag (at a n)) i s))
    where
      go : ((same_tag (tag (at a n)) (var v) && same Polarity-dec s p) ≡ true) ⊎ (some_child (λ i. child_sign (tag (at a n)) i s) (map (fold (sees_node v p) a) (children (at a n))) ≡ true)
          → ((i : ℕ) → i < length (children (at a n)) → sees a (get_or (children (at a n)) i 0) (child_sign (tag (at a n)) i s) v p ≡ true → Has a (get_or (children (at a n)) i 0) (child_sign (tag (at a n)) i s) v p) → Has a n s v p
      go (inl q) f =
          let r = and_true (same_tag (tag (at a n)) (var v)) (same Polarity-dec s p) q in
          record { number = n; place = subst (λ (t : Polarity). Place a n s n t) (same_true Polarity-dec s p r.1) self; is = same_tag_true _ _ r.0 }
      go (inr q) f =
          let r = child_true (fold (sees_node v p) a) (λ i. child_sign (tag (at a n)) i s) (children (at a n)) q in
          let H = f r.0 r.1 r.2 in
          record { number = H.number; place = down r.0 r.1 H.place; is = H.is }

-- seen exactly where there is a place
pub sees_places : SeesPlaces
sees_places table a h v p n l s = (bounded_place table a h v p (suc n) n (omega arith) l s, λ H. place_sees table a h v p H.place l H.is)

-- ---- the variables of the type of a root
module _ (table : ℕ) (a : Arena) (h : sound table a ≡ true) (root : ℕ) (l : root < length a) (v : ℕ) where
  pub seen_occurs : (p : Polarity) → sees a root positive v p ≡ true → Occurs a root v p
  seen_occurs p = (sees_places table a h v p root l positive).0

  pub occurs_seen : (p : Polarity) → Occurs a root v p → sees a root positive v p ≡ true
  occurs_seen p = (sees_places table a h v p root l positive).1

  pub unseen : (p : Polarity) → (Occurs a root v p → ⊥) → sees a root positive v p ≡ false
  unseen p f = not_true (sees a root positive v p) (λ e. f (seen_occurs p e))

-- a one-signed variable occurs with the polarity that it has somewhere, and no other
pub one_signed_only : OneSignedOnly
unfolding one_signed
one_signed_only table a h root l v p e O =
    record { there = O; nowhere_else = λ N. clash p (occurs_seen table a h root l v p O) (occurs_seen table a h root l v (opposite p) N) }
  where
    clash : (p : Polarity) → sees a root positive v p ≡ true → sees a root positive v (opposite p) ≡ true → ⊥
    clash positive x y = true_false (sym (rw (x, y) at e))
    clash negative x y = true_false (sym (rw (x, y) at e))

pub only_one_signed : OnlyOneSigned
unfolding one_signed
only_one_signed table a h root l v positive O = rw (occurs_seen table a h root l v positive O.there, unseen table a h root l v negative O.nowhere_else)
only_one_signed table a h root l v negative O = rw (occurs_seen table a h root l v negative O.there, unseen table a h root l v positive O.nowhere_else)
