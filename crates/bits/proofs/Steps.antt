-- What each function does with one word, in the code's own terms.
use Prim.Native.Nat.{ℕ, ◌+◌, ◌*◌, ◌/◌, ◌%◌, ◌^◌, ◌≤◌, ◌<◌}
use mathlib.Core.Path.{◌≡◌, refl, ap, ◌∙◌}
use mathlib.Core.List.{List}
use native.Mathlib.Omega.{arith}
use lib.ListN.{length, get_or, set}
use lib.Bits.{bit_or}
use lib.Count.{ones, ones-le}
use Rattle.bits.specs.Bits.{has, Put, count_below}
use Rattle.bits.specs.Theorems.{Tested}
use Rattle.bits.proofs.Halves.{bit_shift, one_shifted}
use Rattle.bits.proofs.Sets.{put_word, count_row}

pub tested : Tested
unfolding has
tested s n = bit_shift (get_or s (n / 64) 0) (n % 64)

pub put_in : (s : List ℕ) (n : ℕ) → n / 64 < length s → Put s n (set s (n / 64) (bit_or (get_or s (n / 64) 0) ((1 * 2 ^ (n % 64)) % 18446744073709551616)))
put_in s n h = rw (one_shifted (n % 64) (omega arith)) (put_word s n h)

-- the words passed are counted
pub record Counted (s : List ℕ) (sum i : ℕ) : Type 0 where
  pub turn : i ≤ 64
  pub few : sum ≤ i * 64
  pub is : sum ≡ count_below (has s) (i * 64)

pub counted_start : (s : List ℕ) → Counted s 0 0
unfolding count_below
counted_start s = record { turn = omega arith; few = omega arith; is = refl }

pub counted_more : {s : List ℕ} {sum i : ℕ} → Counted s sum i → i < 64 → get_or s i 0 < 2 ^ 64 → Counted s (sum + ones (get_or s i 0)) (i + 1)
counted_more {s} {sum} {i} C h w = record {
  turn = omega arith;
  few = omega (arith, C.few, ones-le 64 (get_or s i 0) w);
  is = omega (arith, C.is, count_row s i w);
}

pub counted_done : {s : List ℕ} {sum i : ℕ} → Counted s sum i → 64 ≤ i → sum ≡ count_below (has s) 4096
counted_done {s} {i = i} C h = let e : i * 64 ≡ 4096 = omega (arith, C.turn) in C.is ∙ ap (count_below (has s)) e
