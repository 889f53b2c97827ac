-- Rows joined word by word, and so value by value.
use Prim.Native.Nat.{ℕ, zero, suc, ◌+◌, ◌*◌, ◌/◌, ◌%◌, ◌≤◌, ◌<◌}
use mathlib.Core.Path.{◌≡◌, refl, sym, ap, ◌∙◌}
use mathlib.Core.Bool.{Bool, true, false, ◌&&◌, ◌||◌, xor}
use mathlib.Core.List.{List, ◌∷◌, map}
use native.Mathlib.Omega.{arith}
use native.Mathlib.Numerals.{add-one}
use lib.ListN.{length, get_or, drop, replicate, length-replicate, length-map, drop_of_length-le, get_or-map}
use lib.Seq.{drop-cons}
use lib.Bits.{bit_and, bit_or, bit_xor}
use lib.Dec.{eqb}
use borrow.Author.Tests.{eq-eqb, ne_eqb}
use Rattle.words.specs.Words.{child}
use Rattle.bits.specs.Bits.{bit, has}
use Rattle.bits.proofs.Halves.{bit_bit_and, bit_either, ones_bit}
use Rattle.bits.proofs.Sets.{has_none}
use Rattle.fitting.specs.Inner.Rows.{pair}
use Rattle.fitting.specs.Inner.Joined.{starts_full, all_or_none, join, join_all, JoinsWords, Rows, Joins, RowsOf, JoinsAll}

-- ---- two words
module _ (k x y : ℕ) where
  join_is : {s t : Bool} → eqb k 8 ≡ s → eqb k 10 ≡ t → (b : ℕ) → elim s as (λ _. Bool) [ true ↦ bit x b && bit y b | false ↦ elim t as (λ _. Bool) [ true ↦ xor (bit x b) (bit y b) | false ↦ bit x b || bit y b ] ] ≡ join k (bit x b) (bit y b)
  unfolding join
  join_is p q b = sym (λ i. elim (p i) as (λ _. Bool) [ true ↦ bit x b && bit y b | false ↦ elim (q i) as (λ _. Bool) [ true ↦ xor (bit x b) (bit y b) | false ↦ bit x b || bit y b ] ])

  pub words_and : k ≡ 8 → JoinsWords k x y (bit_and x y)
  words_and e = record { is = λ b. bit_bit_and x y b ∙ join_is (eq-eqb k 8 e) refl b }

  pub words_xor : (k ≡ 8 → ⊥) → k ≡ 10 → JoinsWords k x y (bit_xor x y)
  words_xor f e = record { is = λ b. bit_either true x y b ∙ join_is (ne_eqb k 8 f) (eq-eqb k 10 e) b }

  pub words_or : (k ≡ 8 → ⊥) → (k ≡ 10 → ⊥) → JoinsWords k x y (bit_or x y)
  words_or f g = record { is = λ b. bit_either false x y b ∙ join_is (ne_eqb k 8 f) (ne_eqb k 10 g) b }

-- ---- all values, or none
pub full_tests : (k : ℕ) → (eqb k 1 || (eqb k 8 || eqb k 10)) ≡ starts_full k
unfolding starts_full
full_tests k = refl

pub row_full : {b : Bool} → b ≡ true → replicate 16 18446744073709551615 ≡ all_or_none b
unfolding all_or_none
row_full e = rw e

pub row_none : {b : Bool} → b ≡ false → replicate 16 0 ≡ all_or_none b
unfolding all_or_none
row_none e = rw e

same_at : (k x i : ℕ) → i < k → get_or (replicate k x) i 0 ≡ x
same_at zero x i h = absurd (omega arith)
same_at (suc k) x zero h = refl
same_at (suc k) x (suc i) h = same_at k x i (omega arith)

all_has : (b : Bool) (v : ℕ) → v < 1024 → has (all_or_none b) v ≡ b
unfolding has all_or_none
all_has true v l = ap (λ (x : ℕ). bit x (v % 64)) (same_at 16 18446744073709551615 (v / 64) (omega arith)) ∙ ones_bit 64 (v % 64) (omega arith)
all_has false v l = has_none 16 v

all_long : (b : Bool) → length (all_or_none b) ≡ 16
unfolding all_or_none
all_long true = length-replicate {A = ℕ} 16 18446744073709551615
all_long false = length-replicate {A = ℕ} 16 0

-- ---- where the bit of a pair stands
module _ (ps : List ℕ) (width n v : ℕ) where
  pub pair_word : pair ps width n v ≡ bit (get_or ps (n * width + v / 64) 0) (v % 64)
  unfolding pair has
  pair_word =
      let p : (n * width * 64 + v) / 64 ≡ n * width + v / 64 = omega arith in
      let q : (n * width * 64 + v) % 64 ≡ v % 64 = omega arith in
      λ i. bit (get_or ps (p i) 0) (q i)

-- ---- one child's row
pub record Joining (k : ℕ) (row ps : List ℕ) (width n : ℕ) (now : List ℕ) (i : ℕ) : Type 0 where
  pub rows : Rows row ps width n
  pub long : length now ≡ 16
  pub turn : i ≤ width
  pub done : (j : ℕ) → j < i → JoinsWords k (get_or row j 0) (get_or ps (n * width + j) 0) (get_or now j 0)
  pub left : (j : ℕ) → i ≤ j → get_or now j 0 ≡ get_or row j 0

module _ {k : ℕ} {row ps : List ℕ} {width n : ℕ} where
  module _ {now : List ℕ} {i : ℕ} (J : Joining k row ps width n now i) where
    pub joining_done : width ≤ i → Joins k row ps width n now
    unfolding has
    joining_done h = record {
      long = J.long;
      is = λ v l. (J.done (v / 64) (omega (arith, h, l))).is (v % 64) ∙ ap (join k (bit (get_or row (v / 64) 0) (v % 64))) (sym (pair_word ps width n v));
    }

-- ---- all children's rows
abbrev tests : List ℕ → ℕ → List ℕ → ℕ → List Bool
tests ps width body v = map (λ (n : ℕ). pair ps width n v) (map child body)

pub record Gathering (k : ℕ) (body ps : List ℕ) (width : ℕ) (row : List ℕ) (i : ℕ) : Type 0 where
  pub rows : RowsOf body ps width
  pub long : length row ≡ 16
  pub left : (v : ℕ) → v < width * 64 → width ≤ 16 → join_all k (starts_full k) (tests ps width body v) ≡ join_all k (has row v) (drop i (tests ps width body v))

module _ {k : ℕ} {body ps : List ℕ} {width : ℕ} where
  pub gathering_start : RowsOf body ps width → {b : Bool} → b ≡ starts_full k → {row : List ℕ} → row ≡ all_or_none b → Gathering k body ps width row 0
  gathering_start R {b} e {row} q = record {
    rows = R;
    long = ap length q ∙ all_long b;
    left = λ v l n. sym (ap (λ (x : Bool). join_all k x (tests ps width body v)) (ap (λ (y : List ℕ). has y v) q ∙ all_has b v (omega (arith, l, n)) ∙ e));
  }

  module _ {row : List ℕ} {i : ℕ} (G : Gathering k body ps width row i) where
    next_test : (v : ℕ) → i < length body → drop i (tests ps width body v) ≡ pair ps width (child (get_or body i 0)) v ∷ drop (i + 1) (tests ps width body v)
    next_test v l =
        let d : length (tests ps width body v) ≡ length body = length-map (map child body) (λ (n : ℕ). pair ps width n v) ∙ length-map body child in
        drop-cons (tests ps width body v) i (pair ps width (child 0) v) (omega (arith, l, d))
        ∙ (λ j. (get_or-map (λ (n : ℕ). pair ps width n v) (map child body) i (child 0) ∙ ap (λ (n : ℕ). pair ps width n v) (get_or-map child body i 0)) j ∷ drop (suc i) (tests ps width body v))
        ∙ ap (λ (m : ℕ). pair ps width (child (get_or body i 0)) v ∷ drop m (tests ps width body v)) (sym (add-one i))

    pub gathering_more : i < length body → {x n : ℕ} → x ≡ child (get_or body i 0) → n ≡ x → {row' : List ℕ} → Joins k row ps width n row' → Gathering k body ps width row' (i + 1)
    unfolding join_all
    gathering_more l {x} {n} e q {row'} J = record {
      rows = G.rows;
      long = J.long;
      left = λ v h w. G.left v h w ∙ ap (join_all k (has row v)) (next_test v l) ∙ sym (ap (λ (y : Bool). join_all k y (drop (i + 1) (tests ps width body v))) (J.is v h ∙ ap (λ (m : ℕ). join k (has row v) (pair ps width m v)) (q ∙ e)));
    }

    pub gathering_done : length body ≤ i → JoinsAll k body ps width row
    unfolding join_all
    gathering_done h = record {
      long = G.long;
      is = λ v l w. sym (G.left v l w ∙ ap (join_all k (has row v)) (drop_of_length-le (tests ps width body v) {i = i} (omega (arith, h, length-map (map child body) (λ (n : ℕ). pair ps width n v), length-map body child))));
    }
