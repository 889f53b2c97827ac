-- Each value in turn is held against the node, and gets its bit if the node takes it.
use Prim.Native.Nat.{ℕ, ◌+◌, ◌≤◌, ◌<◌}
use mathlib.Core.Path.{◌≡◌, refl, sym, ap, ◌∙◌, subst}
use mathlib.Core.Bool.{Bool, true, false}
use mathlib.Core.List.{List, map}
use native.Mathlib.Omega.{arith}
use native.Mathlib.Decide.{ℕ_discrete}
use lib.ListN.{length, replicate, length-replicate}
use Rattle.types.specs.Node.{Node, tag, children, encode, well}
use Rattle.types.proofs.Tests.{true_false}
use Rattle.bits.specs.Bits.{has, Put}
use Rattle.bits.proofs.Sets.{has_none}
use Rattle.fix_values.specs.Values as values
use Rattle.fix_values.specs.Fix.{Fix}
use Rattle.fix_values.specs.Inner.{FixIn, ValueAt}
use Rattle.fix_values.proofs.Checking.{held_is, held_few}
use Rattle.fitting.specs.Fits.{node_takes}
use Rattle.fitting.specs.Inner.Rows.{pair}
use Rattle.fitting.specs.Inner.Taken.{ValueIn, Takes, Against, Marks}

-- ---- one bit
module _ (v : ℕ) {b : Bool} {s : List ℕ} where
  pub marked : b ≡ true → {t : List ℕ} → Put s v t → Marks b v s t
  marked e P = record { long = P.long; put = λ q. P; kept = λ q. absurd (true_false (sym e ∙ q)) }

-- ---- all values
pub record Taking (ws ps : List ℕ) (width : ℕ) (fix places : List ℕ) (count : ℕ) (row : List ℕ) (v : ℕ) : Type 0 where
  pub against : Against ws ps width fix places count
  pub turn : v ≤ count
  pub long : length row ≡ 16
  pub done : (table nodes : ℕ) (x : Node) → well table nodes x ≡ true → ws ≡ encode x → (t : ℕ) (f : Fix) → FixIn t fix places count f
      → (u : ℕ) → u < v → has row u ≡ node_takes f (tag x) (map (pair ps width) (children x)) u
  pub left : (u : ℕ) → v ≤ u → has row u ≡ false

module _ {ws ps : List ℕ} {width : ℕ} {fix places : List ℕ} {count : ℕ} where
  pub taking_start : Against ws ps width fix places count → Taking ws ps width fix places count (replicate 16 0) 0
  taking_start A = record {
    against = A;
    turn = omega arith;
    long = length-replicate {A = ℕ} 16 0;
    done = λ table nodes x g q t f F u l. absurd (omega arith);
    left = λ u l. has_none 16 u;
  }

  module _ {row : List ℕ} {v : ℕ} (T : Taking ws ps width fix places count row v) where
    pub taking_value : v < count → {us : List ℕ} → ValueAt fix places count v us → ValueIn us width
    taking_value l R = record {
      table = T.against.table;
      values_before = v;
      good = ap (values.is_value T.against.table v) (R.is T.against.table T.against.view T.against.holds) ∙ held_is T.against.holds v l;
      fits = omega (arith, l, T.against.wide);
    }

    few : v < count → v < 1024
    few l = let h = (held_few T.against.holds).1 in omega (arith, l, h)

    module _ (l : v < count) {us : List ℕ} (R : ValueAt fix places count v us) {b : Bool} (K : Takes ws us ps width b) where
      told : (table nodes : ℕ) (x : Node) → well table nodes x ≡ true → ws ≡ encode x → (t : ℕ) (f : Fix) → FixIn t fix places count f → b ≡ node_takes f (tag x) (map (pair ps width) (children x)) v
      told table nodes x g q t f F = K.is table nodes x g q f v (sym (ap values.guess (R.is t f F) ∙ (F.placed v l).back))

      -- the row with or without the bit, which is set exactly if the node takes the value
      more : (row' : List ℕ) → length row' ≡ 16 → has row' v ≡ b → ((u : ℕ) → (u ≡ v → ⊥) → has row' u ≡ has row u) → Taking ws ps width fix places count row' (v + 1)
      more row' n e o = record {
        against = T.against;
        turn = omega (arith, l);
        long = n;
        done = λ table nodes x g q t f F u h. go table nodes x g q t f F u h (ℕ_discrete u v);
        left = λ u h. o u (λ q. omega (arith, q, h)) ∙ T.left u (omega (arith, h));
      }
        where
          go : (table nodes : ℕ) (x : Node) → well table nodes x ≡ true → ws ≡ encode x → (t : ℕ) (f : Fix) → FixIn t fix places count f
              → (u : ℕ) → u < v + 1 → Dec (u ≡ v) → has row' u ≡ node_takes f (tag x) (map (pair ps width) (children x)) u
          go table nodes x g q t f F u h (yes p) = subst (λ (w : ℕ). has row' w ≡ node_takes f (tag x) (map (pair ps width) (children x)) w) (sym p) (e ∙ told table nodes x g q t f F)
          go table nodes x g q t f F u h (no p) = o u p ∙ T.done table nodes x g q t f F u (omega (arith, h, p))

      pub taking_more : {row' : List ℕ} → Marks b v row row' → Taking ws ps width fix places count row' (v + 1)
      taking_more {row'} M = go b refl
        where
          go : (c : Bool) → b ≡ c → Taking ws ps width fix places count row' (v + 1)
          go true p = more row' (M.long ∙ T.long) ((M.put p).new ∙ sym p) (M.put p).old
          go false p = more row' (M.long ∙ T.long) (ap (λ (y : List ℕ). has y v) (M.kept p) ∙ T.left v (omega arith) ∙ sym p) (λ u f. ap (λ (y : List ℕ). has y u) (M.kept p))
