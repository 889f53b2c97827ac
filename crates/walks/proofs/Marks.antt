-- The loop from the root down: the sets hold only nodes with places, and from the node reached on they are closed under children.
use Prim.Native.Nat.{ℕ, ◌+◌, ◌-◌, ◌<◌, ◌≤◌}
use mathlib.Core.Path.{◌≡◌, refl, sym, ◌∙◌, subst}
use mathlib.Core.Bool.{true}
use mathlib.Core.List.{List}
use mathlib.Core.Logic.{◌⊎◌, inl, inr}
use native.Mathlib.Decide.{ℕ_discrete}
use native.Mathlib.Omega.{arith}
use mir.Syntax.{w32}
use mir.Val.{Fits}
use lib.ListN.{get_or, replicate, length-replicate}
use Rattle.types.specs.Node.{Polarity, positive, negative, tag, children}
use Rattle.types.specs.Arena.{Arena, at}
use Rattle.types.specs.Places.{child_sign, Place, self, down}
use Rattle.types.specs.Memory.{Holds}
use Rattle.types.specs.declared.Counters.{Counters}
use Rattle.types.proofs.Tests.{true_false}
use Rattle.types.proofs.Sound.{child_lower}
use Rattle.types.proofs.Memories.{unique}
use Rattle.types.proofs.Walks.{place_join}
use Rattle.types.proofs.Addresses.{start_room}
use Rattle.bits.specs.Bits.{has, Put}
use Rattle.bits.specs.Inner.{Row}
use Rattle.bits.proofs.Sets.{has_none}
use Rattle.node_store.specs.Inner.Stored.{InRange}
use Rattle.walks.specs.Inner.Signs.{side, Signs, Rows, ChildOf, Visits, SignsIn}

-- a child has a place below its parent
child_place : {a : Arena} {n : ℕ} {s t : Polarity} {u : ℕ} → ChildOf a n s t u → Place a n s u t
child_place {a} {n} {s} {t} {u} C =
    down C.index C.inside
    (subst (λ (x : ℕ). Place a (get_or (children (at a n)) C.index 0) (child_sign (tag (at a n)) C.index s) x t) (sym C.is)
    (subst (λ (y : Polarity). Place a (get_or (children (at a n)) C.index 0) (child_sign (tag (at a n)) C.index s) (get_or (children (at a n)) C.index 0) y) (sym C.sign) self))

pub record Sweep (w s : List ℕ) (c : Counters) (root : ℕ) (p q : List ℕ) (n : ℕ) : Type 0 where
  pub range : InRange w s c root
  pub rows : Rows p q
  pub high : n ≤ root + 1
  pub begun : has p root ≡ true
  pub sound : (t : Polarity) (u : ℕ) → has (side t p q) u ≡ true → Place range.lent.view root positive u t
  pub closed : (k : ℕ) → n ≤ k → (t : Polarity) → has (side t p q) k ≡ true → (t' : Polarity) (u : ℕ) → ChildOf range.lent.view k t t' u → has (side t' p q) u ≡ true

module _ {w s : List ℕ} {c : Counters} {root : ℕ} where
  pub root_small : InRange w s c root → root < 4096
  root_small R = let H = R.lent.holds in omega (arith, R.inside, start_room H, H.few_starts)

  pub root_fits : InRange w s c root → Fits w32 root
  root_fits R = omega (arith, root_small R)

  pub root_row : InRange w s c root → Row (replicate 64 0) root
  root_row R = record { long = length-replicate {A = ℕ} 64 0; inside = root_small R }

  pub sweep_start : {p : List ℕ} → InRange w s c root → Put (replicate 64 0) root p → Sweep w s c root p (replicate 64 0) (root + 1)
  sweep_start {p} R P = record {
    range = R;
    rows = record { first = P.long ∙ length-replicate {A = ℕ} 64 0; second = length-replicate {A = ℕ} 64 0 };
    high = omega arith;
    begun = P.new;
    sound = sound;
    closed = λ k l t h. absurd (outside k l t h);
  }
    where
      other : (u : ℕ) → (u ≡ root → ⊥) → has p u ≡ true → ⊥
      other u f h = true_false (sym h ∙ P.old u f ∙ has_none 64 u)

      sound : (t : Polarity) (u : ℕ) → has (side t p (replicate 64 0)) u ≡ true → Place R.lent.view root positive u t
      sound positive u h = go (ℕ_discrete u root)
        where
          go : Dec (u ≡ root) → Place R.lent.view root positive u positive
          go (yes e) = subst (λ (x : ℕ). Place R.lent.view root positive x positive) (sym e) self
          go (no f) = absurd (other u f h)
      sound negative u h = absurd (true_false (sym h ∙ has_none 64 u))

      outside : (k : ℕ) → root + 1 ≤ k → (t : Polarity) → has (side t p (replicate 64 0)) k ≡ true → ⊥
      outside k l positive h = other k (λ e. omega arith) h
      outside k l negative h = true_false (sym h ∙ has_none 64 k)

  module _ {p q : List ℕ} {n : ℕ} (S : Sweep w s c root p q n) where
    module _ (h : 0 < n) {p₁ q₁ : List ℕ} (X : Visits w s c (n - 1) positive p q p₁ q₁) where
      -- a child of the node visited has a lower number, so no set changes from that node on
      fixed : {sign : Polarity} {x y x' y' : List ℕ} → Visits w s c (n - 1) sign x y x' y' → (k : ℕ) → n - 1 ≤ k → (t : Polarity) → has (side t x' y') k ≡ true → has (side t x y) k ≡ true
      fixed {sign} {x} {y} W k l t g = go (W.only S.range.lent.table S.range.lent.view S.range.lent.holds t k g)
        where
          go : (has (side t x y) k ≡ true) ⊎ ((has (side sign x y) (n - 1) ≡ true) × ChildOf S.range.lent.view (n - 1) sign t k) → has (side t x y) k ≡ true
          go (inl z) = z
          go (inr z) =
              let H = S.range.lent.holds in
              let C = z.1 in
              let low = child_lower S.range.lent.table S.range.lent.view H.good (n - 1) (omega (arith, S.high, S.range.inside, H.nodes)) C.index C.inside in
              absurd (omega (arith, C.is))

      pub sweep_more : {p₂ q₂ : List ℕ} → Visits w s c (n - 1) negative p₁ q₁ p₂ q₂ → Sweep w s c root p₂ q₂ (n - 1)
      sweep_more {p₂} {q₂} W = record {
        range = S.range;
        rows = W.rows;
        high = omega (arith, S.high);
        begun = W.kept positive root (X.kept positive root S.begun);
        sound = λ t u x. second t u (W.only table view holds t u x);
        closed = closed;
      }
        where
          table : ℕ
          table = S.range.lent.table

          view : Arena
          view = S.range.lent.view

          holds : Holds table w s c view
          holds = S.range.lent.holds

          first : (t : Polarity) (u : ℕ) → (has (side t p q) u ≡ true) ⊎ ((has (side positive p q) (n - 1) ≡ true) × ChildOf view (n - 1) positive t u) → Place view root positive u t
          first t u (inl x) = S.sound t u x
          first t u (inr x) = place_join (S.sound positive (n - 1) x.0) (child_place x.1)

          second : (t : Polarity) (u : ℕ) → (has (side t p₁ q₁) u ≡ true) ⊎ ((has (side negative p₁ q₁) (n - 1) ≡ true) × ChildOf view (n - 1) negative t u) → Place view root positive u t
          second t u (inl x) = first t u (X.only table view holds t u x)
          second t u (inr x) = place_join (first negative (n - 1) (X.only table view holds negative (n - 1) x.0)) (child_place x.1)

          at_node : (t : Polarity) → has (side t p₁ q₁) (n - 1) ≡ true → (t' : Polarity) (u : ℕ) → ChildOf view (n - 1) t t' u → has (side t' p₂ q₂) u ≡ true
          at_node positive x t' u C = W.kept t' u (X.new table view holds (fixed X (n - 1) (omega arith) positive x) t' u C)
          at_node negative x t' u C = W.new table view holds x t' u C

          closed : (k : ℕ) → n - 1 ≤ k → (t : Polarity) → has (side t p₂ q₂) k ≡ true → (t' : Polarity) (u : ℕ) → ChildOf view k t t' u → has (side t' p₂ q₂) u ≡ true
          closed k l t x t' u C = go (ℕ_discrete k (n - 1))
            where
              go : Dec (k ≡ n - 1) → has (side t' p₂ q₂) u ≡ true
              go (yes e) =
                  at_node t (fixed W (n - 1) (omega arith) t (subst (λ (i : ℕ). has (side t p₂ q₂) i ≡ true) e x)) t' u (subst (λ (i : ℕ). ChildOf view i t t' u) e C)
              go (no f) = W.kept t' u (X.kept t' u (S.closed k (omega arith) t (fixed X k l t (fixed W k l t x)) t' u C))

    -- ---- the end
    pub sweep_done : n ≤ 0 → SignsIn w s c root p q
    sweep_done h = record {
      is = λ table b H.
          subst (λ (d : Arena). Signs d root p q) (unique S.range.lent.holds H) (record { sound = S.sound; complete = λ t u x. reached x S.begun });
    }
      where
        reached : {m u : ℕ} {t t' : Polarity} → Place S.range.lent.view m t u t' → has (side t p q) m ≡ true → has (side t' p q) u ≡ true
        reached self x = x
        reached (down {n = m} {s = t} i l r) x = reached r (S.closed m (omega arith) t x (child_sign (tag (at S.range.lent.view m)) i t) (get_or (children (at S.range.lent.view m)) i 0) (record { index = i; inside = l; sign = refl; is = refl }))
