-- The test `reaches` is `Reachable`: a path of children, of whatever signs.
use Prim.Native.Nat.{ℕ, zero, suc, ◌<◌}
use mathlib.Core.Path.{◌≡◌, refl, sym, ap, ◌∙◌, subst}
use mathlib.Core.Bool.{Bool, true, false, ◌||◌}
use mathlib.Core.List.{List, [], ◌∷◌, map}
use native.Mathlib.Omega.{arith}
use lib.ListN.{length, get_or}
use lib.Dec.{eqb}
use borrow.Author.Tests.{eqb-true, eq-eqb}
use Rattle.types.specs.Node.{Polarity, positive, tag, children, Node}
use Rattle.types.specs.Arena.{Arena, at, sound}
use Rattle.types.specs.Places.{child_sign, Place, self, down}
use Rattle.types.proofs.Tests.{true_false}
use Rattle.types.proofs.Growth.{before, ext_tail, ext_rec, rec_at}
use Rattle.types.proofs.Sound.{child_lower}
use Rattle.walks.specs.Reach.{some_of, reaches}
use Rattle.walks.specs.Theorems.{ReachesPlace, PlaceReaches}

-- ---- one of several tests
pub record Some (g : ℕ → Bool) (cs : List ℕ) : Type 0 where
  pub index : ℕ
  pub inside : index < length cs
  pub passes : g (get_or cs index 0) ≡ true

pub some_in : (g : ℕ → Bool) (cs : List ℕ) → some_of (map g cs) ≡ true → Some g cs
unfolding some_of
some_in g [] e = absurd (true_false (sym e))
some_in g (c ∷ cs) e = go (g c) refl e (some_in g cs)
  where
    go : (b : Bool) → g c ≡ b → (b || some_of (map g cs)) ≡ true → (some_of (map g cs) ≡ true → Some g cs) → Some g (c ∷ cs)
    go true q h f = record { index = 0; inside = omega arith; passes = q }
    go false q h f = let S = f h in record { index = suc S.index; inside = omega (arith, S.inside); passes = S.passes }

pub or_right : (b c : Bool) → c ≡ true → (b || c) ≡ true
or_right true c e = refl
or_right false c e = e

pub in_some : (g : ℕ → Bool) (cs : List ℕ) (i : ℕ) → i < length cs → g (get_or cs i 0) ≡ true → some_of (map g cs) ≡ true
unfolding some_of
in_some g [] i l e = absurd (omega arith)
in_some g (c ∷ cs) zero l e = rw e
in_some g (c ∷ cs) (suc i) l e = or_right (g c) (some_of (map g cs)) (in_some g cs i (omega arith) e)

module _ (table : ℕ) (a : Arena) (h : sound table a ≡ true) (u : ℕ) where
  -- the test at a node, from the nodes before it
  at_node : (n : ℕ) (l : n < length a) → reaches a n u ≡ (eqb u (length (before a n l).older) || some_of (map (λ (c : ℕ). reaches (before a n l).older c u) (children (at a n))))
  unfolding reaches
  at_node n l = ap (λ (f : ℕ → Bool). f u) (rec_at (λ (s : Arena) (x : Node) (f : ℕ → ℕ → Bool) (u : ℕ). eqb u (length s) || some_of (map (λ (c : ℕ). f c u) (children x))) (λ u. false) a n l)

  older : (n : ℕ) (l : n < length a) (c : ℕ) → c < n → reaches a c u ≡ reaches (before a n l).older c u
  unfolding reaches
  older n l c k = let B = before a n l in ap (λ (f : ℕ → Bool). f u) (ext_rec (λ (s : Arena) (x : Node) (f : ℕ → ℕ → Bool) (u : ℕ). eqb u (length s) || some_of (map (λ (c : ℕ). f c u) (children x))) (λ u. false) B.older a (ext_tail B.ext) c (omega (arith, B.count)))

  record Led (n : ℕ) (s : Polarity) : Type 0 where
    pub sign : Polarity
    pub place : Place a n s u sign

  led : (m n : ℕ) → n < m → n < length a → reaches a n u ≡ true → (s : Polarity) → Led n s
  led zero n k l e s = absurd (omega arith)
  led (suc m) n k l e s = go (eqb u (length (before a n l).older)) refl (sym (at_node n l) ∙ e) (led m)
    where
      go : (b : Bool) → eqb u (length (before a n l).older) ≡ b → (b || some_of (map (λ (c : ℕ). reaches (before a n l).older c u) (children (at a n)))) ≡ true
          → ((c : ℕ) → c < m → c < length a → reaches a c u ≡ true → (t : Polarity) → Led c t) → Led n s
      go true q x f =
          let B = before a n l in
          let z : n ≡ u = sym B.count ∙ sym (eqb-true u (length B.older) q) in
          record { sign = s; place = subst (λ (v : ℕ). Place a n s v s) z self }
      go false q x f =
          let S = some_in (λ (c : ℕ). reaches (before a n l).older c u) (children (at a n)) x in
          let low = child_lower table a h n l S.index S.inside in
          let L = f (get_or (children (at a n)) S.index 0) (omega arith) (omega arith) (older n l _ low ∙ S.passes) (child_sign (tag (at a n)) S.index s) in
          record { sign = L.sign; place = down S.index S.inside L.place }

pub reaches_place : ReachesPlace
reaches_place table a h u n l e = let L = led table a h u (suc n) n (omega arith) l e positive in record { sign = L.sign; place = L.place }

pub place_reaches : (table : ℕ) (a : Arena) {n : ℕ} {s p : Polarity} → PlaceReaches table a n s p
place_reaches table a {n} h u self l = let B = before a n l in at_node table a h u n l ∙ rw (eq-eqb n (length B.older) (sym B.count))
place_reaches table a h u (down {n = n} i k r) l =
    let c = child_lower table a h n l i k in
    at_node table a h u n l
    ∙ or_right (eqb u (length (before a n l).older)) _
    (in_some (λ (c : ℕ). reaches (before a n l).older c u) (children (at a n)) i k (sym (older table a h u n l _ c) ∙ place_reaches table a h u r (omega arith)))
