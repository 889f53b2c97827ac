-- A fix is the list of its values, the last first: a value's number is how many stand behind it in this list, and the fix itself is the
-- first (02, A5).
use Rattle.std.specs.Prelude.{ℕ, zero, suc, Bool, true, false, ◌&&◌, List, [], ◌∷◌, ◌++◌, length, take, drop, eqb}
use Rattle.std.proofs.Math.Option.{Option, none, some}
use Rattle.words.specs.Words.{head_count}
use Rattle.fix_values.specs.Values.{Value, value, plain, encode, well, guess, is_value}

abbrev pub Fix : Type 0
Fix = List Value

-- value v, and null past the end
unfoldable pub value_at : Fix → ℕ → Value
value_at [] v = value (plain 0) []
value_at (x ∷ f) v = elim (eqb v (length f)) [ true ↦ x | false ↦ value_at f v ]

-- the words of its values, one after another without gap, from value 0 on
unfoldable pub flat : Fix → List ℕ
unfolding encode
flat [] = []
flat (x ∷ f) = flat f ++ encode x

-- may each value stand where it does?
unfoldable pub good : ℕ → Fix → Bool
unfolding well
good table [] = true
good table (x ∷ f) = well table (length f) x && good table f

-- the values f and at most k more, whose words are all of ws; none where a value breaks the layout or one more is left
unfoldable pub read : ℕ → ℕ → List ℕ → Fix → Option Fix
unfolding is_value guess head_count
read table zero [] f = some f
read table zero (h ∷ b) f = none
read table (suc k) [] f = some f
read table (suc k) (h ∷ b) f = elim (is_value table (length f) (h ∷ take (head_count h) b)) [
  | true ↦ read table k (drop (head_count h) b) (guess (h ∷ take (head_count h) b) ∷ f)
  | false ↦ none
]

-- the fix that lent words hold: 1 to 1,024 values up to the end, under a table of so many names
unfoldable pub fix_of : ℕ → List ℕ → Option Fix
unfolding read
fix_of table [] = none
fix_of table (h ∷ b) = read table 1024 (h ∷ b) []
