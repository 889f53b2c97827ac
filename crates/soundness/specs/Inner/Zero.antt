-- What the loops over unused memory ask and answer.
use Rattle.std.specs.Prelude.{◌≡◌, Bool, ◌&&◌, List, ℕ, length}
use Rattle.types.specs.Node.{below}

-- stretches of one length
pub record Alike (a b c d : List ℕ) : Type 0 where
  pub second : length b ≡ length a
  pub third : length c ≡ length a
  pub fourth : length d ≡ length a

-- are all their words zero?
unfoldable pub four_zero : List ℕ → List ℕ → List ℕ → List ℕ → Bool
unfolding below
four_zero a b c d = below 1 a && (below 1 b && (below 1 c && below 1 d))
