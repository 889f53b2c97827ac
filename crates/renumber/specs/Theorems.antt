-- What is shown of `normalize_vars` and `normalize_replacing_unknown` beyond their contracts.
use Rattle.std.specs.Prelude.{ℕ, zero, suc, ◌<◌, ◌≡◌, true, false, List, [], ◌∷◌, ◌++◌, length, Ok}
use Rattle.std.proofs.Math.Option.{Option, none, some}
use Rattle.types.specs.Node.{tag}
use Rattle.types.specs.Arena.{Arena, at}
use Rattle.types.specs.Memory.{Holds}
use Rattle.types.specs.declared.Counters.{Counters}
use Rattle.free_vars.specs.FreeVars.{free_type_vars}
use Rattle.renumbering.specs.Renumbered.{var_number}
use Rattle.types.specs.Tyvar.{unknown}
use Rattle.renumber.specs.Renumber.{normalize}

-- 0, 1, .. up to the number before n
unfoldable pub numbers_below : ℕ → List ℕ
numbers_below zero = []
numbers_below (suc n) = numbers_below n ++ (n ∷ [])

-- what `normalize_replacing_unknown` leaves of n variables: of a root that is one, the unknown one alone
unfoldable pub replaced : Option ℕ → ℕ → List ℕ
unfolding numbers_below
replaced (some v) n = unknown ∷ []
replaced none n = numbers_below n

-- the variables of a finished call's type are 0, 1, .. in the order of a first visit, as many as the given type has; but a root that is a
-- variable becomes the unknown one in `normalize_replacing_unknown` (01, "arena")
pub record VarsInOrder (words starts : ℕ) (a : Arena) (root : ℕ) : Type 0 where
  pub normalized : (m : ℕ) (b : Arena) → normalize false words starts root a ≡ Ok (m, b)
      → free_type_vars b m ≡ numbers_below (length (free_type_vars a root))
  pub replacing : (m : ℕ) (b : Arena) → normalize true words starts root a ≡ Ok (m, b)
      → free_type_vars b m ≡ replaced (var_number (tag (at a root))) (length (free_type_vars a root))

-- so it is of every root in every arena that lent memory holds
abbrev pub NormalizedInOrder : Type 0
NormalizedInOrder = (table : ℕ) (w s : List ℕ) (c : Counters) (a : Arena) → Holds table w s c a → (root : ℕ) → root < length a
    → VarsInOrder (length w) (length s) a root
