-- What the functions on sets ask and answer.
use Rattle.std.specs.Prelude.{ℕ, ◌<◌, ◌≡◌, ◌||◌, List, length, get_or}
use Rattle.std.specs.Bool.{xor}
use Rattle.bits.specs.Bits.{Combined}

-- s has room for n: a reference to an array doesn't say the length of its list
pub record Row (s : List ℕ) (n : ℕ) : Type 0 where
  pub long : length s ≡ 64
  pub inside : n < 4096

-- r has 64 words, each the answer at the words of s and t in its place
pub record EachWord (answers : ℕ → ℕ → ℕ → Type 0) (s t r : List ℕ) : Type 0 where
  pub long : length r ≡ 64
  pub each : (i : ℕ) → i < 64 → answers (get_or s i 0) (get_or t i 0) (get_or r i 0)

-- the node numbers of either set
abbrev pub Union : List ℕ → List ℕ → List ℕ → Type 0
Union = Combined ◌||◌ 4096

-- the node numbers of one set only
abbrev pub SymmetricDifference : List ℕ → List ℕ → List ℕ → Type 0
SymmetricDifference = Combined xor 4096
