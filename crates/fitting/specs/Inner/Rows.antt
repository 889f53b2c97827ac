-- Rows of bits: which values fit a node, one node after another.
use Rattle.std.specs.Prelude.{ℕ, ◌+◌, ◌*◌, ◌≤◌, ◌<◌, Bool, List, length}
use Rattle.bits.specs.Bits.{has}

-- by rows of so many words of 64 bits, does value v fit node n?
unfoldable pub pair : List ℕ → ℕ → ℕ → ℕ → Bool
unfolding has
pair ps width n v = has ps (n * width * 64 + v)

-- the words have a row for node n
pub record HasRow (ps : List ℕ) (width n : ℕ) : Type 0 where
  pub inside : (n + 1) * width ≤ length ps
  pub narrow : width ≤ 16
  pub small : n < 4096

-- and the row a bit for value v
pub record HasPair (ps : List ℕ) (width n v : ℕ) : Type 0 where
  pub row : HasRow ps width n
  pub fits : v < width * 64
