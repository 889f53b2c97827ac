-- The digits of a number: those of its tenth, then the last one; no more of them than its size allows.
use Prim.Native.Nat.{ℕ, zero, suc, ◌/◌, ◌%◌, ◌^◌, ◌≤◌, ◌<◌}
use mathlib.Core.Path.{◌≡◌}
use mathlib.Core.List.{[], ◌∷◌, ◌++◌}
use native.Mathlib.Omega.{arith}
use native.Mathlib.Decide.{dec_lt}
use native.Mathlib.Nat.{pow-suc}
use lib.ListN.{length-append}
use borrow.Author.Tests.{lt-ltb, le-ltb}
use Rattle.types.specs.Decimal.{digit, digits, decimal}
use Rattle.types.specs.Theorems.{DecimalSmall, DecimalStep, DecimalLength}

digits_small : (k n : ℕ) → n < 10 → digits (suc k) n ≡ digit n ∷ []
unfolding digits
digits_small k n h = rw (lt-ltb n 10 h, digits)

digits_step : (k n : ℕ) → 10 ≤ n → digits (suc k) n ≡ digits k (n / 10) ++ (digit (n % 10) ∷ [])
unfolding digits
digits_step k n h = rw (le-ltb n 10 h, digits)

-- any limit above n gives all digits
digits_all : (k j n : ℕ) → n < k → n < j → digits k n ≡ digits j n
digits_all zero j n h g = absurd (omega arith)
digits_all (suc k) zero n h g = absurd (omega arith)
digits_all (suc k) (suc j) n h g =
    elim (dec_lt n 10) [
      | yes s ↦ cc (digits_small k n s, digits_small j n s)
      | no f ↦
          let l : 10 ≤ n = omega arith in
          let e : digits k (n / 10) ≡ digits j (n / 10) = digits_all k j (n / 10) (omega arith) (omega arith) in
          cc (digits_step k n l, digits_step j n l)
    ]

pub decimal_small : DecimalSmall
unfolding decimal
decimal_small n h = digits_small n n h

pub decimal_step : DecimalStep
unfolding decimal
decimal_step n h = cc (digits_step n n h, digits_all n (suc (n / 10)) (n / 10) (omega arith) (omega arith))

pub decimal_length : DecimalLength
decimal_length zero n h = rw (decimal_small n h) (omega arith)
decimal_length (suc k) n h =
    elim (dec_lt n 10) [
      | yes s ↦ rw (decimal_small n s) (omega arith)
      | no f ↦
          let l : 10 ≤ n = omega arith in
          let tenth : n / 10 < 10 ^ suc k = omega (arith, pow-suc 10 (suc k)) in
          rw (decimal_step n l, length-append) (omega (arith, decimal_length k (n / 10) tenth))
    ]
