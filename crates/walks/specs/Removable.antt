-- Which variables a pass may drop from a member list: those that it sees with one sign (01, "simplify" and "Places and passes"; the paper
-- on variables of one polarity).
use Rattle.std.specs.Prelude.{ℕ}
use Rattle.types.specs.Node.{Polarity, positive}
use Rattle.types.specs.Arena.{Arena}
use Rattle.types.specs.Places.{opposite, Place, Occurs}

-- the variable v is seen with one sign and not with the other; one with no place is seen with neither (the Rust's `polar_only_vars`)
pub record Removable (a : Arena) (root v : ℕ) : Type 0 where
  pub sign : Polarity
  pub seen : Occurs a root v sign
  pub unseen : Occurs a root v (opposite sign) → ⊥

-- node u has a place of one sign and none of the other. In a sound arena a variable has one node, so that for a variable's node this is
-- `Removable`: the theorem `one_signed_removable`
pub record OneSigned (a : Arena) (root u : ℕ) : Type 0 where
  pub sign : Polarity
  pub place : Place a root positive u sign
  pub unplaced : Place a root positive u (opposite sign) → ⊥
