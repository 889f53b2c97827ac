-- The walk to the first field whose name isn't below another passes those below it; names rise, so that no field but the one it comes to has that name.
use Prim.Native.Nat.{ℕ, zero, suc, ◌+◌, ◌<◌, ◌≤◌}
use mathlib.Core.Path.{◌≡◌, refl, sym, ap, ◌∙◌}
use mathlib.Core.Bool.{true, false}
use mathlib.Core.List.{List, [], ◌∷◌, map}
use native.Mathlib.Omega.{arith}
use native.Mathlib.Decide.{ℕ_discrete, dec_lt}
use lib.ListN.{length, get_or}
use lib.Dec.{eqb, ltb}
use borrow.Author.Tests.{ltb-true, lt-ltb, le-ltb, eqb-true, eq-eqb}
use Rattle.words.specs.Words.{field_name}
use Rattle.types.specs.Node.{rising}
use Rattle.types.proofs.Tests.{true_false, and_true}
use Rattle.fitting.specs.Inner.Sets.{Seeks, Risen, Stands, named_at}

-- ---- from one field on: those passed have names below
pub record Sought (ws : List ℕ) (from name i : ℕ) : Type 0 where
  pub later : from ≤ i
  pub inside : i ≤ length ws
  pub passed : (k : ℕ) → from ≤ k → k < i → field_name (get_or ws k 0) < name

-- ---- the name at a place
module _ (ws : List ℕ) (i name : ℕ) where
  pub named_past : length ws ≤ i → false ≡ named_at ws i name
  unfolding named_at
  named_past h = rw (le-ltb i (length ws) h)

  pub named_inside : i < length ws → {x : ℕ} → x ≡ field_name (get_or ws i 0) → eqb x name ≡ named_at ws i name
  unfolding named_at
  named_inside h e = rw (lt-ltb i (length ws) h, e)

  pub named_so : named_at ws i name ≡ true → (i < length ws) × (field_name (get_or ws i 0) ≡ name)
  unfolding named_at
  named_so e = let p = and_true (ltb i (length ws)) _ e in (ltb-true _ _ p.0, eqb-true _ _ p.1)

  named_not : named_at ws i name ≡ false → i < length ws → field_name (get_or ws i 0) ≡ name → ⊥
  named_not e l q = true_false (sym (eq-eqb _ _ q) ∙ named_inside l refl ∙ e)

-- ---- names that rise
first_below : (m : ℕ) (ws : List ℕ) → rising (m ∷ map field_name ws) ≡ true → (k : ℕ) → k < length ws → m < field_name (get_or ws k 0)
unfolding rising
first_below m [] e k h = absurd (omega arith)
first_below m (w ∷ ws) e zero h = ltb-true _ _ (and_true (ltb m (field_name w)) (rising (map field_name (w ∷ ws))) e).0
first_below m (w ∷ ws) e (suc k) h =
    let p = and_true (ltb m (field_name w)) (rising (map field_name (w ∷ ws))) e in
    let q = first_below (field_name w) ws p.1 k (omega arith) in
    omega (arith, ltb-true m (field_name w) p.0, q)

rest_rises : (m : ℕ) (ws : List ℕ) → rising (m ∷ map field_name ws) ≡ true → rising (map field_name ws) ≡ true
unfolding rising
rest_rises m [] e = refl
rest_rises m (w ∷ ws) e = (and_true (ltb m (field_name w)) (rising (map field_name (w ∷ ws))) e).1

rises : (ws : List ℕ) → rising (map field_name ws) ≡ true → (i k : ℕ) → i < k → k < length ws → field_name (get_or ws i 0) < field_name (get_or ws k 0)
rises [] e i k h l = absurd (omega arith)
rises (w ∷ ws) e i zero h l = absurd (omega arith)
rises (w ∷ ws) e zero (suc k) h l = first_below (field_name w) ws e k (omega arith)
rises (w ∷ ws) e (suc i) (suc k) h l = rises ws (rest_rises (field_name w) ws e) i k (omega arith) (omega arith)

module _ {ws : List ℕ} (R : Risen ws) where
  risen_at : {i k : ℕ} → i < k → k < length ws → field_name (get_or ws i 0) < field_name (get_or ws k 0)
  risen_at {i} {k} h l = rises ws R.is i k h l

  -- where a name would stand and doesn't, no field has it
  pub unnamed : {i name : ℕ} → Stands ws i name → named_at ws i name ≡ false → (k : ℕ) → k < length ws → field_name (get_or ws k 0) ≡ name → ⊥
  unnamed {i} {name} S e k l q = go (dec_lt k i) (ℕ_discrete k i)
    where
      go : Dec (k < i) → Dec (k ≡ i) → ⊥
      go (yes h) d = omega (arith, S.before k h, q)
      go (no h) (yes d) = named_not ws i name e (omega arith) (ap (λ (x : ℕ). field_name (get_or ws x 0)) (sym d) ∙ q)
      go (no h) (no d) =
          let j : i < k = omega (arith, h, d) in
          omega (arith, risen_at j l, S.here (omega (arith, j, l)), q)

-- ---- one place moves on while the other list is walked: the fields before it have names below the other's next
pub record Trails (ws : List ℕ) (i : ℕ) (us : List ℕ) (j : ℕ) : Type 0 where
  pub inside : i ≤ length ws
  pub before : j < length us → (k : ℕ) → k < i → field_name (get_or ws k 0) < field_name (get_or us j 0)

module _ {ws us : List ℕ} where
  module _ {i j m name : ℕ} (T : Trails ws i us j) (S : Seeks ws i name m) (l : j < length us) (e : name ≡ field_name (get_or us j 0)) where
    pub trails_stands : Stands ws m name
    trails_stands = record { before = λ k h. go k h (dec_lt k i); here = S.here }
      where
        go : (k : ℕ) → k < m → Dec (k < i) → field_name (get_or ws k 0) < name
        go k h (yes d) = omega (arith, T.before l k d, e)
        go k h (no d) = S.passed k (omega (arith, d)) h

    pub trails_more : Risen us → Trails ws m us (j + 1)
    trails_more R = record { inside = S.inside; before = λ h k g. omega (arith, trails_stands.before k g, e, risen_at R {i = j} {k = j + 1} (omega arith) h) }
