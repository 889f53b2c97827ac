-- One word: a bit by halving is what a shift reads, and `|`, `&` and `^` go bit by bit.
use Prim.Native.Nat.{ℕ, zero, suc, ◌+◌, ◌*◌, ◌/◌, ◌%◌, ◌^◌, ◌-◌, ◌<◌, min, max}
use mathlib.Core.Path.{◌≡◌, refl, sym, ap, ap₂, ◌∙◌}
use mathlib.Core.Bool.{Bool, true, false, ◌||◌, ◌&&◌, xor, or-true, or-false}
use native.Mathlib.Nat.{pow-suc, pow-zero, div-div-eq-div-mul, mul_comm, div-one}
use native.Mathlib.Omega.{arith}
use lib.Dec.{eqb}
use lib.Bits.{differ, bit_and, bit_or, bit_xor, and_step, or_step, xor_step}
use lib.Pow.{shl_exact}
use Rattle.bits.specs.Bits.{bit, either, either_word}

pub bit_shift : (x b : ℕ) → eqb (x / 2 ^ b % 2) 1 ≡ bit x b
unfolding bit
bit_shift x zero = rw (pow-zero, div-one)
bit_shift x (suc b) =
    ap (λ (d : ℕ). eqb (x / d % 2) 1) (pow-suc 2 b ∙ mul_comm (2 ^ b) 2) ∙ ap (λ (d : ℕ). eqb (d % 2) 1) (sym (div-div-eq-div-mul x 2 (2 ^ b))) ∙ bit_shift (x / 2) b

half_pow : (b : ℕ) → 2 ^ suc b ≡ 2 * 2 ^ b
half_pow b = pow-suc 2 b ∙ mul_comm (2 ^ b) 2

some_power : (k : ℕ) → 0 < 2 ^ k
some_power zero = omega (arith, pow-zero 2)
some_power (suc k) = omega (arith, half_pow k, some_power k)

pub zero_bit : (b : ℕ) → bit 0 b ≡ false
unfolding bit
zero_bit zero = refl
zero_bit (suc b) = zero_bit b

-- ---- the bits of a power
power_half : (b : ℕ) → 2 ^ suc b / 2 ≡ 2 ^ b
power_half b = omega (arith, half_pow b)

power_same : (b : ℕ) → bit (2 ^ b) b ≡ true
unfolding bit
power_same zero = refl
power_same (suc b) = rw (power_half b) (power_same b)

power_other : (b j : ℕ) → (j ≡ b → ⊥) → bit (2 ^ b) j ≡ false
unfolding bit
power_other zero zero ne = absurd (ne refl)
power_other zero (suc j) ne = zero_bit j
power_other (suc b) zero ne = let e : 2 ^ suc b % 2 ≡ 0 = omega (arith, half_pow b) in rw e
power_other (suc b) (suc j) ne = rw (power_half b) (power_other b j (λ q. ne (ap suc q)))

-- a one shifted within the word
pub one_shifted : (b : ℕ) → b < 64 → (1 * 2 ^ b) % 18446744073709551616 ≡ 2 ^ b
one_shifted b h = shl_exact {a = 1} 1 b 64 (omega arith) (omega arith) ∙ omega arith

-- ---- operations that go bit by bit: `op` does with the lowest digits what `low` does, which is f
abbrev digit : Bool → ℕ
digit true = 1
digit false = 0

digit_of : (x : ℕ) → x < 2 → x ≡ digit (eqb x 1)
digit_of zero h = refl
digit_of (suc zero) h = refl
digit_of (suc (suc x)) h = absurd (omega arith)

last_half : (n : ℕ) (p : Bool) → (n * 2 + digit p) / 2 ≡ n
last_half n true = omega arith
last_half n false = omega arith

last_odd : (n : ℕ) (p : Bool) → eqb ((n * 2 + digit p) % 2) 1 ≡ p
last_odd n true = let e : (n * 2 + 1) % 2 ≡ 1 = omega arith in rw e
last_odd n false = let e : (n * 2 + 0) % 2 ≡ 0 = omega arith in rw e

module _ (op low : ℕ → ℕ → ℕ) (f : Bool → Bool → Bool) (step : (x y : ℕ) → op x y ≡ op (x / 2) (y / 2) * 2 + low (x % 2) (y % 2)) (digits : (p q : Bool) → low (digit p) (digit q) ≡ digit (f p q)) where
  lowest : (x y : ℕ) → op x y ≡ op (x / 2) (y / 2) * 2 + digit (f (eqb (x % 2) 1) (eqb (y % 2) 1))
  lowest x y =
      step x y
      ∙ ap₂ (λ (p q : ℕ). op (x / 2) (y / 2) * 2 + low p q) (digit_of (x % 2) (omega arith)) (digit_of (y % 2) (omega arith))
      ∙ ap (λ (d : ℕ). op (x / 2) (y / 2) * 2 + d) (digits (eqb (x % 2) 1) (eqb (y % 2) 1))

  bit_by_bit : (x y b : ℕ) → bit (op x y) b ≡ f (bit x b) (bit y b)
  unfolding bit
  bit_by_bit x y zero = ap (λ (n : ℕ). eqb (n % 2) 1) (lowest x y) ∙ last_odd (op (x / 2) (y / 2)) (f (eqb (x % 2) 1) (eqb (y % 2) 1))
  bit_by_bit x y (suc b) =
      ap (λ (n : ℕ). bit (n / 2) b) (lowest x y)
      ∙ ap (λ (n : ℕ). bit n b) (last_half (op (x / 2) (y / 2)) (f (eqb (x % 2) 1) (eqb (y % 2) 1)))
      ∙ bit_by_bit (x / 2) (y / 2) b

or_digits : (p q : Bool) → max (digit p) (digit q) ≡ digit (p || q)
or_digits true true = refl
or_digits true false = refl
or_digits false true = refl
or_digits false false = refl

xor_digits : (p q : Bool) → differ (digit p) (digit q) ≡ digit (xor p q)
unfolding xor
xor_digits true true = refl
xor_digits true false = refl
xor_digits false true = refl
xor_digits false false = refl

bit_bit_or : (x y b : ℕ) → bit (bit_or x y) b ≡ (bit x b || bit y b)
bit_bit_or = bit_by_bit bit_or max ◌||◌ or_step or_digits

pub bit_either : (e : Bool) (x y b : ℕ) → bit (either_word e x y) b ≡ either e (bit x b) (bit y b)
bit_either false = bit_bit_or
bit_either true = bit_by_bit bit_xor differ xor xor_step xor_digits

and_digits : (p q : Bool) → min (digit p) (digit q) ≡ digit (p && q)
and_digits true true = refl
and_digits true false = refl
and_digits false true = refl
and_digits false false = refl

pub bit_bit_and : (x y b : ℕ) → bit (bit_and x y) b ≡ (bit x b && bit y b)
bit_bit_and = bit_by_bit bit_and min ◌&&◌ and_step and_digits

-- ---- all bits set
pub ones_bit : (k b : ℕ) → b < k → bit (2 ^ k - 1) b ≡ true
unfolding bit
ones_bit zero b h = absurd (omega arith)
ones_bit (suc k) zero h = let e : (2 ^ suc k - 1) % 2 ≡ 1 = omega (arith, half_pow k, some_power k) in rw e
ones_bit (suc k) (suc b) h = let e : (2 ^ suc k - 1) / 2 ≡ 2 ^ k - 1 = omega (arith, half_pow k, some_power k) in rw e (ones_bit k b (omega arith))

-- ---- one bit set
pub or_same : (x b : ℕ) → bit (bit_or x (2 ^ b)) b ≡ true
or_same x b = bit_bit_or x (2 ^ b) b ∙ ap (λ (p : Bool). bit x b || p) (power_same b) ∙ or-true (bit x b)

pub or_other : (x b j : ℕ) → (j ≡ b → ⊥) → bit (bit_or x (2 ^ b)) j ≡ bit x j
or_other x b j ne = bit_bit_or x (2 ^ b) j ∙ ap (λ (p : Bool). bit x j || p) (power_other b j ne) ∙ or-false (bit x j)
