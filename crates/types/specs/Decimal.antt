-- Numbers in base ten, as bytes.
use Rattle.std.specs.Prelude.{ℕ, zero, suc, ◌+◌, ◌/◌, ◌%◌, true, false, List, [], ◌∷◌, ◌++◌, ltb}
use Prim.Native.Char.{code}

-- the byte of a digit
abbrev pub digit : ℕ → ℕ
digit d = code "0" + d

-- the last digits of n, at most as many as the first number
unfoldable pub digits : ℕ → ℕ → List ℕ
digits zero n = []
digits (suc k) n = elim (ltb n 10) [ true ↦ digit n ∷ [] | false ↦ digits k (n / 10) ++ (digit (n % 10) ∷ []) ]

-- the digits of n, of which there are at most n + 1
unfoldable pub decimal : ℕ → List ℕ
unfolding digits
decimal n = digits (suc n) n
