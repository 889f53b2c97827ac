-- How many names a search by halves compares (02, A3; issue 21: at most thirteen of 4,096).
use Rattle.std.specs.Prelude.{ℕ, zero, suc, ◌/◌, true, false, eqb}

-- how often a number is halved until nothing is left, counted up to a most. The measure of the loop of `find_by_halves` is `halvings 13`
-- of how many names are left: it is less after each turn
unfoldable pub halvings : ℕ → ℕ → ℕ
halvings zero n = 0
halvings (suc most) n = elim (eqb n 0) [ true ↦ 0 | false ↦ suc (halvings most (n / 2)) ]
