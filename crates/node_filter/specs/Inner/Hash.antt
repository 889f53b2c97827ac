-- A number for the words of a node, and its bits in a filter. Any would do: nothing is asked of them but that equal words have the same.
use Rattle.std.specs.Prelude.{ℕ, ◌+◌, ◌*◌, ◌/◌, ◌%◌, ◌<◌, ◌≡◌, List, [], ◌∷◌}

-- a word x in front of words whose number is h
abbrev pub mixed : ℕ → ℕ → ℕ
mixed x h = (x + h) % 4294967296 * 2654435769 / 8192 % 4294967296

unfoldable pub hash_of : List ℕ → ℕ
hash_of [] = 0
hash_of (x ∷ ws) = mixed x (hash_of ws)

-- a bit of the hash h: one of the 64 in the word that its highest eleven bits choose
abbrev pub bit_of : ℕ → ℕ → ℕ
bit_of part h = h / 2097152 * 64 + h / part % 64

-- r is that bit, and lies in the filter
pub record BitIn (part h r : ℕ) : Type 0 where
  pub is : r ≡ bit_of part h
  pub low : r < 131072
