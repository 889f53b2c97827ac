-- Which variables fall away, as the paper has it (docs/PAPER.md, "Removal of one-signed variables"), over places. It knows neither passes
-- nor `Neg`.
use Rattle.std.specs.Prelude.{ℕ}
use Rattle.types.specs.Node.{Polarity}
use Rattle.types.specs.Arena.{Arena}
use Rattle.types.specs.Places.{opposite, Occurs}

-- it occurs with this polarity only
pub record OccursOnly (a : Arena) (root v : ℕ) (p : Polarity) : Type 0 where
  pub there : Occurs a root v p
  pub nowhere_else : Occurs a root v (opposite p) → ⊥

-- from lists of the kind k fall away the variables that occur with that polarity only: from unions the positive ones, from intersections
-- the negative ones
abbrev pub FallsAway : Arena → ℕ → Polarity → ℕ → Type 0
FallsAway a root k v = OccursOnly a root v k
