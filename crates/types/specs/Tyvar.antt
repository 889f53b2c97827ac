-- How a type variable is printed (01, "primitive, arc_ty").
use Rattle.std.specs.Prelude.{ℕ, ◌+◌, ◌/◌, ◌%◌, true, false, List, [], ◌∷◌, eqb}
use Prim.Native.Char.{code}
use Rattle.types.specs.Bytes.{bytes}
use Rattle.types.specs.Decimal.{decimal}

-- the variable that stands for an unknown type
abbrev pub unknown : ℕ
unknown = 4294967295

-- the byte of a letter, counted from 0
abbrev pub letter : ℕ → ℕ
letter k = code "a" + k

-- a number that is left out where it is 0
unfoldable pub suffix : ℕ → List ℕ
unfolding decimal
suffix n = elim (eqb n 0) [ true ↦ [] | false ↦ decimal n ]

-- a letter, then how often the alphabet was used up
unfoldable pub tyvar_name : ℕ → List ℕ
unfolding suffix
tyvar_name v = elim (eqb v unknown) [ true ↦ bytes "?" | false ↦ letter (v % 26) ∷ suffix (v / 26) ]
