-- Rows of words of any length: what setting one bit does to the set, and the count of its numbers.
use Prim.Native.Nat.{ℕ, zero, suc, ◌+◌, ◌*◌, ◌/◌, ◌%◌, ◌^◌, ◌≤◌, ◌<◌}
use mathlib.Core.Path.{◌≡◌, refl, sym, ap, ◌∙◌}
use mathlib.Core.Bool.{Bool, true, false}
use mathlib.Core.List.{List}
use native.Mathlib.Nat.{pow-zero, pow-suc, mul_comm}
use native.Mathlib.Decide.{ℕ_discrete}
use native.Mathlib.Omega.{arith}
use lib.ListN.{length, get_or, set, replicate, length-set}
use lib.Seq.{get_or-set_same, get_or-set_other}
use lib.Bits.{bit_or}
use lib.Count.{ones, ones_step}
use lib.Dec.{eqb}
use borrow.Author.Tests.{eqb-true, eqb-false}
use Rattle.bits.specs.Bits.{bit, has, count_below}
use Rattle.bits.specs.Theorems.{PutWord, CountRow, CountRows, sum_ones}
use Rattle.bits.proofs.Halves.{or_same, or_other, zero_bit}

-- ---- one more number
module _ (s : List ℕ) (n : ℕ) (h : n / 64 < length s) where
  word : ℕ
  word = bit_or (get_or s (n / 64) 0) (2 ^ (n % 64))

  with_new : has (set s (n / 64) word) n ≡ true
  unfolding has word
  with_new = ap (λ (x : ℕ). bit x (n % 64)) (get_or-set_same s (n / 64) word 0 h) ∙ or_same (get_or s (n / 64) 0) (n % 64)

  with_old : (k : ℕ) → (k ≡ n → ⊥) → has (set s (n / 64) word) k ≡ has s k
  unfolding has word
  with_old k ne = go (ℕ_discrete (k / 64) (n / 64))
    where
      go : Dec (k / 64 ≡ n / 64) → has (set s (n / 64) word) k ≡ has s k
      go (yes e) =
          let nb : k % 64 ≡ n % 64 → ⊥ = λ q. ne (omega arith) in
          ap (λ (i : ℕ). bit (get_or (set s (n / 64) word) i 0) (k % 64)) e
          ∙ ap (λ (x : ℕ). bit x (k % 64)) (get_or-set_same s (n / 64) word 0 h)
          ∙ or_other (get_or s (n / 64) 0) (n % 64) (k % 64) nb
          ∙ ap (λ (i : ℕ). bit (get_or s i 0) (k % 64)) (sym e)
      go (no q) = ap (λ (x : ℕ). bit x (k % 64)) (get_or-set_other s (n / 64) (k / 64) word 0 q)

pub put_word : PutWord
unfolding word
put_word s n h = record { long = length-set s (n / 64) (word s n h); new = with_new s n h; old = with_old s n h }

-- ---- the empty set
pub zero_at : (k i : ℕ) → ◌≡◌ {A = ℕ} (get_or (replicate k 0) i 0) 0
zero_at zero i = refl
zero_at (suc k) zero = refl
zero_at (suc k) (suc i) = zero_at k i

pub has_none : (k n : ℕ) → has (replicate k 0) n ≡ false
unfolding has
has_none k n = ap (λ (x : ℕ). bit x (n % 64)) (zero_at k (n / 64)) ∙ zero_bit (n % 64)

-- ---- ones counted per word and summed
half_less : (d x : ℕ) → x < 2 ^ suc d → x / 2 < 2 ^ d
half_less d x h = omega (arith, pow-suc 2 d, mul_comm (2 ^ d) 2)

-- one more number, whose test is the lowest bit of x
count_one : (f : ℕ → Bool) (n x : ℕ) → f n ≡ eqb (x % 2) 1 → count_below f (suc n) ≡ count_below f n + x % 2
unfolding count_below
count_one f n x e = go (eqb (x % 2) 1) refl
  where
    go : (b : Bool) → eqb (x % 2) 1 ≡ b → count_below f (suc n) ≡ count_below f n + x % 2
    go true q = let z = eqb-true (x % 2) 1 q in rw (count_below, e ∙ q) (omega arith)
    go false q = let z : x % 2 ≡ 1 → ⊥ = eqb-false (x % 2) 1 q in rw (count_below, e ∙ q) (omega arith)

-- d more numbers, whose tests are the lowest d bits of x
count_word : (f : ℕ → Bool) (d x n : ℕ) → ((j : ℕ) → j < d → f (n + j) ≡ bit x j) → x < 2 ^ d → count_below f (n + d) ≡ count_below f n + ones x
unfolding bit ones
count_word f zero x n g h =
    let e : x ≡ 0 = omega (arith, pow-zero 2) in
    let z : n + 0 ≡ n = omega arith in
    let q : ones x ≡ 0 = ap ones e in
    ap (count_below f) z ∙ omega arith
count_word f (suc d) x n g h =
    let z : n + 0 ≡ n = omega arith in
    let m : n + suc d ≡ suc n + d = omega arith in
    let one = count_one f n x (ap f (sym z) ∙ g 0 (omega arith)) in
    let rest = count_word f d (x / 2) (suc n) (λ j l. let k : suc n + j ≡ n + suc j = omega arith in ap f k ∙ g (suc j) (omega arith)) (half_less d x h) in
    ap (count_below f) m ∙ omega (arith, ones_step x)

-- the numbers of one more word of a row
pub count_row : CountRow
unfolding has
count_row s i h =
    let e : (i + 1) * 64 ≡ i * 64 + 64 = omega arith in
    ap (count_below (has s)) e
    ∙ count_word (has s) 64 (get_or s i 0) (i * 64)
    (λ j l.
    let p : (i * 64 + j) / 64 ≡ i = omega arith in
    let q : (i * 64 + j) % 64 ≡ j = omega arith in
    λ k. bit (get_or s (p k) 0) (q k)) h

-- the count speaks of the set alone
pub count_same : (f g : ℕ → Bool) (n : ℕ) → ((m : ℕ) → m < n → f m ≡ g m) → count_below f n ≡ count_below g n
unfolding count_below
count_same f g zero h = refl
count_same f g (suc n) h = let r = count_same f g n (λ m l. h m (omega arith)) in λ k. elim (h n (omega arith) k) as (λ _. ℕ) [ true ↦ suc (r k) | false ↦ r k ]

pub count_none : (n : ℕ) → count_below (λ m. false) n ≡ 0
unfolding count_below
count_none zero = refl
count_none (suc n) = count_none n

-- one number more passes
pub count_more : (f g : ℕ → Bool) (n m : ℕ) → n < m → f n ≡ false → g n ≡ true → ((c : ℕ) → (c ≡ n → ⊥) → g c ≡ f c) → count_below g m ≡ suc (count_below f m)
unfolding count_below
count_more f g n zero l p q h = absurd (omega arith)
count_more f g n (suc m) l p q h = go (ℕ_discrete m n) (λ k. count_more f g n m k p q h)
  where
    one_later : (x : ℕ) (b : Bool) → elim b as (λ _. ℕ) [ true ↦ suc (suc x) | false ↦ suc x ] ≡ suc (elim b as (λ _. ℕ) [ true ↦ suc x | false ↦ x ])
    one_later x true = refl
    one_later x false = refl

    go : Dec (m ≡ n) → (n < m → count_below g m ≡ suc (count_below f m)) → count_below g (suc m) ≡ suc (count_below f (suc m))
    go (yes e) r = ap (λ (b : Bool). elim b as (λ _. ℕ) [ true ↦ suc (count_below g m) | false ↦ count_below g m ]) (ap g e ∙ q)
        ∙ ap suc (count_same g f m (λ c k. h c (λ z. omega (arith, z, e, k))))
        ∙ sym (ap (λ (b : Bool). suc (elim b as (λ _. ℕ) [ true ↦ suc (count_below f m) | false ↦ count_below f m ])) (ap f e ∙ p))
    go (no e) r =
        let before = r (omega (arith, e, l)) in
        (λ k. elim (h m e k) as (λ _. ℕ) [ true ↦ suc (before k) | false ↦ before k ]) ∙ one_later (count_below f m) (f m)

-- the same of a whole row
pub count_rows : CountRows
unfolding count_below sum_ones
count_rows s words = go (length s) (omega arith)
  where
    go : (k : ℕ) → k ≤ length s → count_below (has s) (k * 64) ≡ sum_ones s k
    go zero h = refl
    go (suc k) h =
        let next : suc k * 64 ≡ (k + 1) * 64 = omega arith in
        let rest = go k (omega arith) in
        ap (count_below (has s)) next ∙ count_row s k (words k (omega arith)) ∙ ap (λ (n : ℕ). n + ones (get_or s k 0)) rest
