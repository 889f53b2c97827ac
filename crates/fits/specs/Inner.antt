-- What the call answers in an arena that is known to be sound.
use Rattle.std.specs.Prelude.{ℕ, ◌≡◌, Bool, List}
use Rattle.types.specs.Out.{Out}
use Rattle.types.specs.Arena.{Arena}
use Rattle.types.specs.Memory.{Holds}
use Rattle.types.specs.declared.Counters.{Counters}
use Rattle.fits.specs.Fits.{fits_root}

-- o is the answer, in any arena that memory holds
pub record FitsIn (table : ℕ) (w s : List ℕ) (c : Counters) (root : ℕ) (ws : List ℕ) (o : Out Bool) : Type 0 where
  pub is : (k : ℕ) (a : Arena) → Holds k w s c a → o ≡ fits_root table root ws a
