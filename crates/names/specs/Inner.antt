-- What a step of a walk through a table answers, and how its bytes are judged.
use Rattle.std.specs.Prelude.{ℕ, zero, suc, ◌+◌, ◌<◌, ◌≤◌, min, ◌≡◌, Bool, ◌||◌, ◌&&◌, List, [], ◌∷◌, length, get_or, take, drop, ltb, leb, eqb}
use Rattle.words.specs.Words.{bit}
use Rattle.types.specs.Order.{is_less}
use Rattle.names.specs.Table.{Name, name_order, table, split, name_text}
use Rattle.names.specs.declared.Stretch.{Stretch}

-- 1 for a byte that isn't one of 32 to 126, else 0
unfoldable pub odd : ℕ → ℕ
odd b = bit (ltb b 32 || ltb 126 b)

-- how many of the bytes aren't
unfoldable pub odd_bytes : List ℕ → ℕ
unfolding odd
odd_bytes [] = 0
odd_bytes (b ∷ bs) = odd b + odd_bytes bs

-- may a name with this length byte follow the last one, whatever its bytes are?
unfoldable pub comes_next : Name → ℕ → Name → Bool
unfolding name_order
comes_next last b n = eqb b (length n) && (leb 1 (length n) && (leb (length n) 64 && is_less (name_order last n)))

-- where the name ends whose length byte stands at this place, at the latest with the bytes
unfoldable pub name_end : List ℕ → ℕ → ℕ
name_end t at = min (at + 1 + get_or t at 0) (length t)

-- few enough names and bytes that each name has an entry in a list of 4,096 places, and each place fits
pub record Listable (t : List ℕ) : Type 0 where
  pub few_names : length (split t) ≤ 4096
  pub few_bytes : length t ≤ 65536

-- where the length byte of name k stands, if each name ends where the next begins; past the last name the end of the bytes
unfoldable pub name_place : List ℕ → ℕ → ℕ
unfolding name_end
name_place t zero = 0
name_place t (suc k) = name_end t (name_place t k)

-- such bytes, and a list of places without an entry
pub record Unplaced (t ps : List ℕ) : Type 0 where
  pub listable : Listable t
  pub long : length ps ≡ 4096
  pub none : (k : ℕ) → get_or ps k 0 ≡ 0

-- the text of each name starts at the place in the list, behind its length byte; past the last name stands 0
pub record Places (t ps : List ℕ) : Type 0 where
  pub listable : Listable t
  pub long : length ps ≡ 4096
  pub there : (k : ℕ) → k < length (split t) → get_or ps k 0 ≡ suc (name_place t k)
  pub none : (k : ℕ) → length (split t) ≤ k → get_or ps k 0 ≡ 0

-- the text of name k of any bytes lies there, behind the names before it and its own length byte where there is such a name
pub record Lies (t : List ℕ) (k : ℕ) (q : Stretch) : Type 0 where
  pub within : q.start + q.length ≤ length t
  pub text : take q.length (drop q.start t) ≡ name_text t k
  pub behind : k < length (split t) → q.start ≡ length (table (take k (split t))) + 1
