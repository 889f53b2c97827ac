-- One pair, and the pairs of two nodes' children one by one: what was there stays, and what is new is asked for.
use Prim.Native.Nat.{ℕ, ◌+◌, ◌-◌, ◌<◌, ◌≤◌}
use mathlib.Core.Path.{◌≡◌, refl, sym, ap, ◌∙◌, subst}
use mathlib.Core.Bool.{Bool, true, false, not}
use mathlib.Core.List.{List}
use mathlib.Core.Logic.{◌⊎◌, inl, inr}
use native.Mathlib.Decide.{ℕ_discrete}
use native.Mathlib.Omega.{arith}
use lib.ListN.{length, get_or}
use lib.Dec.{eqb}
use borrow.Author.Tests.{eqb-true, eqb-false, not-true, not-false}
use Rattle.words.specs.Words.{child}
use Rattle.types.specs.Fault.{children_in}
use Rattle.types.proofs.Tests.{true_false}
use Rattle.node_store.specs.Inner.Children.{ChildWords}
use Rattle.node_store.proofs.Offspring.{as_many, child_is, child_small}
use Rattle.equal.specs.Inner.Pairs.{Pair, Fit, Gives, Beside, GivesAll}

-- ---- one pair
module _ {ps : List ℕ} {k p : ℕ} (F : Fit ps k p) where
  -- what the entry says, and the number that is given, as they are read
  module _ {i t x : ℕ} (e : i ≡ k) (r : t ≡ get_or ps i 0) (n : x ≡ p) where
    pub pair_told : (t ≡ 0 → ⊥) → Gives ps k p ps (eqb t (x + 1))
    pair_told f =
        let at : t ≡ get_or ps k 0 = r ∙ ap (λ (j : ℕ). get_or ps j 0) e in
        record {
          long = refl;
          kept = λ j q h. h;
          only = λ j q h. inl h;
          given = λ h. omega (arith, at, n, eqb-true t (x + 1) h);
          other = λ h.
              let g : t ≡ x + 1 → ⊥ = eqb-false t (x + 1) h in
              record { partner = t - 1; there = omega (arith, at, f); differs = λ q. g (omega (arith, f, q, n)) };
        }

-- ---- the pairs of children
pub record Giving (v w bs cs ps qs : List ℕ) (i : ℕ) : Type 0 where
  pub left : ChildWords v bs
  pub right : ChildWords w cs
  pub level : length (children_in v) ≡ length (children_in w)
  pub room : length ps ≡ 4096
  pub long : length qs ≡ length ps
  pub turn : i ≤ length bs
  pub kept : (j q : ℕ) → Pair ps j q → Pair qs j q
  pub only : (j q : ℕ) → Pair qs j q → Pair ps j q ⊎ Beside (children_in v) (children_in w) j q
  pub given : (x : ℕ) → x < i → Pair qs (get_or (children_in v) x 0) (get_or (children_in w) x 0)

module _ {v w bs cs ps : List ℕ} where
  module _ {qs : List ℕ} {i : ℕ} (G : Giving v w bs cs ps qs i) where
    in_left : i < length bs → i < length (children_in v)
    in_left l = omega (arith, as_many G.left)

    module _ (l : i < length bs) {m n : ℕ} (x : m ≡ child (get_or bs i 0)) (y : n ≡ child (get_or cs i 0)) where
      e : m ≡ get_or (children_in v) i 0
      e = child_is G.left i x

      f : n ≡ get_or (children_in w) i 0
      f = child_is G.right i y

      pub giving_fit : Fit qs m n
      giving_fit = record {
        long = G.long ∙ G.room;
        left = omega (arith, e, child_small v i (in_left l));
        right = omega (arith, f, child_small w i (omega (arith, in_left l, G.level)));
      }

      here : Beside (children_in v) (children_in w) m n
      here = record { index = i; inside = in_left l; left = e; right = f }

      module _ {rs : List ℕ} {b : Bool} (H : Gives qs m n rs b) where
        kept_on : (j q : ℕ) → Pair ps j q → Pair rs j q
        kept_on j q h = H.kept j q (G.kept j q h)

        only_then : (j q : ℕ) → Pair rs j q → Pair ps j q ⊎ Beside (children_in v) (children_in w) j q
        only_then j q h = go (H.only j q h)
          where
            go : Pair qs j q ⊎ ((j ≡ m) × (q ≡ n)) → Pair ps j q ⊎ Beside (children_in v) (children_in w) j q
            go (inl y) = G.only j q y
            go (inr y) = inr (record { index = i; inside = in_left l; left = y.0 ∙ e; right = y.1 ∙ f })

        pub giving_clash : not b ≡ true → GivesAll (children_in v) (children_in w) ps rs false
        giving_clash g = record {
          long = H.long ∙ G.long;
          kept = kept_on;
          only = only_then;
          given = λ h. absurd (true_false (sym h));
          clash = λ h. record { node = m; beside = n; pair = here; other = H.other (not-true b g) };
        }

        pub giving_more : not b ≡ false → Giving v w bs cs ps rs (i + 1)
        giving_more g = record { left = G.left; right = G.right; level = G.level; room = G.room; long = H.long ∙ G.long; turn = omega arith; kept = kept_on; only = only_then; given = given }
          where
            given : (x : ℕ) → x < i + 1 → Pair rs (get_or (children_in v) x 0) (get_or (children_in w) x 0)
            given x k = go (ℕ_discrete x i)
              where
                now_given : Pair rs (get_or (children_in v) i 0) (get_or (children_in w) i 0)
                now_given = ap (λ (y : ℕ). get_or rs y 0) (sym e) ∙ H.given (not-false b g) ∙ ap (λ (y : ℕ). y + 1) f

                go : Dec (x ≡ i) → Pair rs (get_or (children_in v) x 0) (get_or (children_in w) x 0)
                go (yes r) = subst (λ (y : ℕ). Pair rs (get_or (children_in v) y 0) (get_or (children_in w) y 0)) (sym r) now_given
                go (no r) = H.kept _ _ (G.given x (omega arith))
