-- One pass over the type of a root: what the function answers.
use Rattle.std.specs.Prelude.{ℕ, List, length}
use Rattle.types.specs.Out.{Out}
use Rattle.types.specs.Arena.{Arena}
use Rattle.types.specs.Memory.{Holds}
use Rattle.types.specs.declared.Counters.{Counters}
use Rattle.simplification.specs.Pass.{pass}
use Rattle.recursion.specs.Inner.Hosted.{LeadsOnce}

-- the outcome is that of the defined pass
pub record SimplifiesOnce (w s : List ℕ) (c : Counters) (root : ℕ) (w' s' : List ℕ) (r : Out (ℕ × Counters)) : Type 0 where
  pub is : (table : ℕ) (a : Arena) → Holds table w s c a → LeadsOnce table a w' s' r (pass (length w) (length s) root a)
