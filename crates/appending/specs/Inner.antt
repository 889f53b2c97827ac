-- What the functions that write into lent bytes answer. A count of bytes over their number says that the text so far didn't fit.
use Rattle.std.specs.Prelude.{ℕ, ◌+◌, ◌≤◌, ◌<◌, ◌≡◌, List, length}
use Rattle.std.proofs.Math.Seq.{paste}

-- the text x is put behind the first `count` of the bytes b, which gives the bytes b' and a count of `end`; where it doesn't fit
-- the count says so and the bytes are free, but as many
pub record Writes (b : List ℕ) (count : ℕ) (x b' : List ℕ) (end : ℕ) : Type 0 where
  pub long : length b' ≡ length b
  pub put : count + length x ≤ length b → b' ≡ paste b count x (length x)
  pub fits : count + length x ≤ length b → end ≡ count + length x
  pub full : length b < count + length x → length b < end
