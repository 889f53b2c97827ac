-- Sets of numbers, one bit a number in words of 64 bits (01, "Forms of the Rust that can't be kept": visited sets).
use Rattle.std.specs.Prelude.{ℕ, zero, suc, ◌/◌, ◌%◌, ◌≤◌, ◌<◌, ◌≡◌, Bool, true, false, ◌||◌, List, length, get_or, eqb}
use Rattle.std.specs.Bool.{xor}
use Rattle.std.specs.Int.Bits.{bit_or, bit_xor}

-- bit b of x, by halving
unfoldable pub bit : ℕ → ℕ → Bool
bit x zero = eqb (x % 2) 1
bit x (suc b) = bit (x / 2) b

-- is n in the set?
unfoldable pub has : List ℕ → ℕ → Bool
unfolding bit
has s n = bit (get_or s (n / 64) 0) (n % 64)

-- t is the set s with n in it
pub record Put (s : List ℕ) (n : ℕ) (t : List ℕ) : Type 0 where
  pub long : length t ≡ length s
  pub new : has t n ≡ true
  pub old : (m : ℕ) → (m ≡ n → ⊥) → has t m ≡ has s m

-- r has those numbers below `size` of which f says yes, told whether s has them and whether t does
pub record Combined (f : Bool → Bool → Bool) (size : ℕ) (s t r : List ℕ) : Type 0 where
  pub is : (n : ℕ) → n < size → has r n ≡ f (has s n) (has t n)
  pub beyond : (n : ℕ) → size ≤ n → has r n ≡ false

-- by a flag: is one of two true, or if the flag is set, one only?
abbrev pub either : Bool → Bool → Bool → Bool
either false = ◌||◌
either true = xor

-- the same of each bit of two words
abbrev pub either_word : Bool → ℕ → ℕ → ℕ
either_word false = bit_or
either_word true = bit_xor

-- how many of the numbers below n pass the test?
unfoldable pub count_below : (ℕ → Bool) → ℕ → ℕ
count_below f zero = 0
count_below f (suc n) = elim (f n) [ true ↦ suc (count_below f n) | false ↦ count_below f n ]
