-- Which variables lambdas take: what the functions ask and answer.
use Rattle.std.specs.Prelude as std
use Rattle.std.specs.Prelude.{ℕ, ◌<◌, ◌≡◌, Bool, true, false, ◌&&◌, ◌||◌, List, length, eqb}
use Rattle.std.proofs.Math.Option.{Option, none, some}
use Rattle.types.specs.Out.{option_of}
use Rattle.types.specs.Arena.{Arena, at}
use Rattle.types.specs.Memory.{Holds}
use Rattle.types.specs.declared.Counters.{Counters}
use Rattle.bits.specs.Bits.{has}
use Rattle.questions.specs.Lambdas.{param_of, takes_var, shared_in}

-- what node n takes, if it is in the set and takes a variable
unfoldable pub taken : Bool → Arena → ℕ → Option ℕ
unfolding at
taken b a n = elim (b && takes_var a n) [ true ↦ some (param_of a n) | false ↦ none ]

-- r is that, in any arena that memory holds
pub record ParamAt (w s : List ℕ) (c : Counters) (b : Bool) (n : ℕ) (r : std.Option ℕ) : Type 0 where
  pub is : (table : ℕ) (a : Arena) → Holds table w s c a → option_of r ≡ taken b a n

-- the set has room for a node's number, if there is one
pub record ParamRow (seen : List ℕ) (o : Option ℕ) : Type 0 where
  pub long : length seen ≡ 64
  pub small : (p : ℕ) → o ≡ some p → p < 4096

-- a test of the number, if there is one
abbrev pub passes : (ℕ → Bool) → Option ℕ → Bool
passes f none = false
passes f (some p) = f p

-- r says whether the number was in the set; if not, it is the one that the set then has besides
pub record Seeing (seen : List ℕ) (o : Option ℕ) (after : List ℕ) (r : Bool) : Type 0 where
  pub long : length after ≡ length seen
  pub is : r ≡ passes (has seen) o
  pub grown : r ≡ false → (q : ℕ) → has after q ≡ (passes (eqb q) o || has seen q)

-- r says whether two nodes in the set take the same variable
pub record Shares (w s : List ℕ) (c : Counters) (met : List ℕ) (r : Bool) : Type 0 where
  pub is : (table : ℕ) (a : Arena) → Holds table w s c a → r ≡ shared_in (has met) a
