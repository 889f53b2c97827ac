-- Nothing is ever merged: each step of a path leads to one child, so a path names one variable, and two variables have no path in common.
use Prim.Native.Nat.{ℕ, zero, suc, ◌+◌, ◌≤◌, ◌<◌}
use mathlib.Core.Path.{◌≡◌, refl, sym, ap, subst}
use mathlib.Core.Bool.{Bool, true, false}
use mathlib.Core.List.{List, [], ◌∷◌, ◌++◌}
use native.Mathlib.Omega.{arith}
use lib.ListN.{length, get_or}
use lib.Dec.{ltb}
use borrow.Author.Tests.{eqb-true, ltb-true}
use Rattle.words.specs.Words.{bit}
use Rattle.types.specs.Kind.{body_count}
use Rattle.types.specs.Node.{Polarity, positive, negative, Field, field, Tag, members, bound, var, neg, form, primitive, list, lambda, attrset, named, Node, node, field_names, names, tag, children, child_words, child_words_in, rising}
use Rattle.types.specs.Arena.{Arena, at, sound}
use Rattle.types.specs.Places.{self}
use Rattle.types.specs.Places as places
use Rattle.types.proofs.Tests.{and_true}
use Rattle.types.proofs.Nodes.{length_child_words, Formed, formed_parts}
use Rattle.node_order.specs.NodeOrder.{Settled}
use Rattle.node_order.proofs.NodeOrders.{rising_rest}
use Rattle.walks.specs.Paths.{attr_field, TypePath, lambda_segment, attr_segment, segments, PathTo, here, down, Grouped}
use Rattle.walks.specs.Theorems.{OneVariable, SameVariable, PlacePath, NothingMerged}
use Rattle.walks.proofs.Variables.{at_settled, no_child}

-- ---- the steps to a set's children differ
-- no later field has a name up to m, nor has the dynamic part
attr_later : (m : ℕ) (fs : List Field) → rising (m ∷ field_names fs) ≡ true → (k : ℕ) → k ≤ m → (i : ℕ) → attr_segment fs i ≡ attr_field k → ⊥
unfolding rising attr_segment
attr_later m [] r k l i e = let z : ◌≡◌ {A = ℕ} 0 1 = cc in omega arith
attr_later m (field o n ∷ fs) r k l zero e =
    let q : n ≡ k = cc in
    omega (arith, ltb-true m n (and_true (ltb m n) (rising (n ∷ field_names fs)) r).0)
attr_later m (field o n ∷ fs) r k l (suc i) e =
    let p = and_true (ltb m n) (rising (n ∷ field_names fs)) r in
    attr_later n fs p.1 k (omega (arith, ltb-true m n p.0)) i e

attr_apart : (fs : List Field) → rising (field_names fs) ≡ true → (i j : ℕ) → i ≤ length fs → j ≤ length fs → attr_segment fs i ≡ attr_segment fs j → i ≡ j
unfolding attr_segment
attr_apart [] r i j l k e = omega arith
attr_apart (field o n ∷ fs) r zero zero l k e = refl
attr_apart (field o n ∷ fs) r zero (suc j) l k e = absurd (attr_later n fs r n (omega arith) j (sym e))
attr_apart (field o n ∷ fs) r (suc i) zero l k e = absurd (attr_later n fs r n (omega arith) i e)
attr_apart (field o n ∷ fs) r (suc i) (suc j) l k e = ap suc (attr_apart fs (rising_rest n fs r) i j (omega arith) (omega arith) e)

attr_in : (d : Bool) {n i : ℕ} → i < n + bit d → i ≤ n
attr_in true l = omega arith
attr_in false l = omega arith

-- ---- the steps to any node's children differ, or it has at most one child
record Same (i j : ℕ) (π ρ : TypePath) : Type 0 where
  child : i ≡ j
  rest : π ≡ ρ

lambda_apart : (i j : ℕ) → i < 2 → j < 2 → {π ρ : TypePath} → lambda_segment i ∷ π ≡ lambda_segment j ∷ ρ → Same i j π ρ
lambda_apart zero zero l k e = record { child = refl; rest = cc }
lambda_apart zero (suc j) l k e = let z : ◌≡◌ {A = ℕ} 0 1 = cc in absurd (omega arith)
lambda_apart (suc i) zero l k e = let z : ◌≡◌ {A = ℕ} 0 1 = cc in absurd (omega arith)
lambda_apart (suc i) (suc j) l k e = record { child = omega arith; rest = cc }

module _ (cs : List ℕ) {i j : ℕ} (l : i < length cs) (k : j < length cs) {π ρ : TypePath} where
  -- the first of at most one
  only : length cs ≤ 1 → π ≡ ρ → Same i j π ρ
  only h e = record { child = omega arith; rest = e }

  apart : (t : Tag) → Formed t cs → rising (names t) ≡ true → segments t i ++ π ≡ segments t j ++ ρ → Same i j π ρ
  unfolding segments body_count child_words_in
  apart (members s) F r e = record { child = cc; rest = cc }
  apart (bound positive) F r e = only (omega (arith, eqb-true (length cs) 0 F.counted)) e
  apart (bound negative) F r e = only (omega (arith, eqb-true (length cs) 0 F.counted)) e
  apart (var v) F r e = only (omega (arith, eqb-true (suc (length cs)) 1 F.counted)) e
  apart neg F r e = only (omega (arith, eqb-true (length cs) 1 F.counted)) e
  apart (form (primitive c)) F r e = only (omega (arith, eqb-true (suc (length cs)) 1 F.counted)) e
  apart (form list) F r e = only (omega (arith, eqb-true (length cs) 1 F.counted)) (cc)
  apart (form lambda) F r e = let n = eqb-true (length cs) 2 F.counted in lambda_apart i j (omega arith) (omega arith) e
  apart (form (attrset fs d o)) F r e =
      let n = eqb-true (length cs) (length fs + bit d) F.matches in
      record { child = attr_apart fs r i j (attr_in d (omega arith)) (attr_in d (omega arith)) (cc); rest = cc }
  apart (form (named n)) F r e = only (omega (arith, length_child_words (field false n ∷ []) cs, eqb-true (length (child_words (field false n ∷ []) cs)) 1 F.counted)) e

step : (x : Node) → Settled x → {i j : ℕ} → i < length (children x) → j < length (children x) → {π ρ : TypePath} → segments (tag x) i ++ π ≡ segments (tag x) j ++ ρ → Same i j π ρ
step (node t cs) S l k e = apart cs l k t (formed_parts t cs S.formed) S.rising e

module _ (table : ℕ) (a : Arena) (h : sound table a ≡ true) where
  along : {n v w : ℕ} {π ρ : TypePath} → PathTo a n π v → PathTo a n ρ w → π ≡ ρ → v ≡ w
  along (here e) (here f) q = cc
  along (here e) (down {n = n} i l p) q = absurd (omega (arith, no_child (at a n) (at_settled table a h n) e))
  along (down {n = n} i l o) (here f) q = absurd (omega (arith, no_child (at a n) (at_settled table a h n) f))
  along (down {n = n} i l o) (down {v = w} {π = ρ} j k p) q =
      let S = step (at a n) (at_settled table a h n) l k q in
      along o (subst (λ (m : ℕ). PathTo a (get_or (children (at a n)) m 0) ρ w) (sym S.child) p) S.rest

-- a path from a node names one variable
pub one_variable : (table : ℕ) (a : Arena) {n v w : ℕ} {π : TypePath} → OneVariable table a n v w π
one_variable table a h o p = along table a h o p refl

-- two variables with the same paths are one, if one of them has a path
pub same_variable : (table : ℕ) (a : Arena) {n v w : ℕ} {π : TypePath} → SameVariable table a n v w π
same_variable table a {π = π} h f o = one_variable table a h o (f π o)

-- ---- a variable with a place has a path
pub place_path : {a : Arena} {n u v : ℕ} {s p : Polarity} → PlacePath a n u v s p
place_path self e = record { path = []; occurs = here e }
place_path (places.down i l q) e = record { path = _; occurs = down i l (place_path q e).occurs }

-- ---- the substitution is empty
grouped_same : (table : ℕ) (a : Arena) → sound table a ≡ true → {root v w : ℕ} → Grouped a root v w → v ≡ w
grouped_same table a h G = let S = G.first positive in same_variable table a h (λ ρ. (G.same ρ).0) (place_path S.place S.is).occurs

pub nothing_merged : (table : ℕ) (a : Arena) {root v w : ℕ} → NothingMerged table a root v w
nothing_merged table a h M = omega (arith, grouped_same table a h M.grouped, M.smaller)
