-- Texts that are written or not, by where they stand.
use Rattle.std.specs.Prelude.{ℕ, zero, suc, Bool, true, false, List, []}

-- a text that is written only under a condition
unfoldable pub when : Bool → List ℕ → List ℕ
when true x = x
when false x = []

-- what stands before child i where something separates the children: nothing before the first
unfoldable pub between : List ℕ → ℕ → List ℕ
between x zero = []
between x (suc i) = x
