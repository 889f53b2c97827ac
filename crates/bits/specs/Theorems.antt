-- What is shown of sets of numbers beyond the contracts, for rows of any length.
use Rattle.std.specs.Prelude.{ℕ, zero, suc, ◌+◌, ◌*◌, ◌/◌, ◌%◌, ◌^◌, ◌<◌, ◌≡◌, Bool, List, length, get_or, set, eqb}
use Rattle.std.specs.Int.Bits.{bit_or}
use Rattle.std.specs.Int.Count.{ones}
use Rattle.bits.specs.Bits.{has, Put, Combined, either, either_word, count_below}

-- to set its bit puts a number into the set
abbrev pub PutWord : Type 0
PutWord = (s : List ℕ) (n : ℕ) → n / 64 < length s → Put s n (set s (n / 64) (bit_or (get_or s (n / 64) 0) (2 ^ (n % 64))))

-- its bit tells whether a number is in the set
abbrev pub Tested : Type 0
Tested = (s : List ℕ) (n : ℕ) → eqb (get_or s (n / 64) 0 / 2 ^ (n % 64) % 2) 1 ≡ has s n

-- a word more has as many numbers more as it has ones
abbrev pub CountRow : Type 0
CountRow =
    (s : List ℕ) (i : ℕ) → get_or s i 0 < 2 ^ 64 → count_below (has s) ((i + 1) * 64) ≡ count_below (has s) (i * 64) + ones (get_or s i 0)

-- the ones of the first k words, summed
unfoldable pub sum_ones : List ℕ → ℕ → ℕ
sum_ones s zero = 0
sum_ones s (suc k) = sum_ones s k + ones (get_or s k 0)

-- a row has as many numbers as its words have ones
abbrev pub CountRows : Type 0
CountRows =
    (s : List ℕ) → ((i : ℕ) → i < length s → get_or s i 0 < 2 ^ 64)
    → count_below (has s) (length s * 64) ≡ sum_ones s (length s)

-- a row whose words are those of two rows combined is the two sets combined: the union, or if the flag is set the symmetric difference
abbrev pub CombinedRow : Type 0
CombinedRow =
    (exclusive : Bool) (s t r : List ℕ) → ((i : ℕ) → i < length r → get_or r i 0 ≡ either_word exclusive (get_or s i 0) (get_or t i 0))
    → Combined (either exclusive) (length r * 64) s t r
