-- What the functions that ask about a root answer, in any arena that memory holds.
use Rattle.std.specs.Prelude.{ℕ, ◌≡◌, List}
use Rattle.types.specs.Out.{Out}
use Rattle.types.specs.Arena.{Arena}
use Rattle.types.specs.Memory.{Holds}
use Rattle.types.specs.declared.Counters.{Counters}
use Rattle.walks.specs.Asked.{asking}

-- r is what q says of the root, in any arena that memory holds
pub record Says {A : Type 0} (q : Arena → ℕ → A) (w s : List ℕ) (c : Counters) (root : ℕ) (r : A) : Type 0 where
  pub is : (table : ℕ) (a : Arena) → Holds table w s c a → r ≡ q a root

-- o is the answer, in any arena that memory holds
pub record Answers {A : Type 0} (q : Arena → ℕ → A) (w s : List ℕ) (c : Counters) (root : ℕ) (o : Out A) : Type 0 where
  pub is : (table : ℕ) (a : Arena) → Holds table w s c a → o ≡ asking q root a
