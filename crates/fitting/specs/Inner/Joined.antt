-- How a row is joined from the rows of children.
use Rattle.std.specs.Prelude.{ℕ, ◌*◌, ◌<◌, ◌≤◌, ◌≡◌, Bool, true, false, ◌&&◌, ◌||◌, List, [], ◌∷◌, map, length, get_or, replicate, eqb}
use Rattle.std.specs.Bool.{xor}
use Rattle.words.specs.Words.{child}
use Rattle.types.specs.Kind as kinds
use Rattle.types.specs.Kind.{disc}
use Rattle.bits.specs.Bits.{bit, has}
use Rattle.fitting.specs.Inner.Rows.{pair, HasRow}

-- does a row of this kind start with all values?
unfoldable pub starts_full : ℕ → Bool
starts_full k = eqb k (disc kinds.top) || (eqb k (disc kinds.intersection) || eqb k (disc kinds.neg))

-- all values, or none
unfoldable pub all_or_none : Bool → List ℕ
all_or_none true = replicate 16 18446744073709551615
all_or_none false = replicate 16 0

-- what becomes of a value that a row has or not, where a child's row has it or not
unfoldable pub join : ℕ → Bool → Bool → Bool
join k x y = elim (eqb k (disc kinds.intersection)) [
  | true ↦ x && y
  | false ↦ elim (eqb k (disc kinds.neg)) [ true ↦ xor x y | false ↦ x || y ]
]

-- the same for all children
unfoldable pub join_all : ℕ → Bool → List Bool → Bool
unfolding join
join_all k x [] = x
join_all k x (y ∷ ys) = join_all k (join k x y) ys

-- r has the bits of the words x and y joined
pub record JoinsWords (k x y r : ℕ) : Type 0 where
  pub is : (b : ℕ) → bit r b ≡ join k (bit x b) (bit y b)

-- a row, and the row of node n
pub record Rows (row ps : List ℕ) (width n : ℕ) : Type 0 where
  pub long : length row ≡ 16
  pub has_row : HasRow ps width n

-- the row of node n was joined to a row
pub record Joins (k : ℕ) (row ps : List ℕ) (width n : ℕ) (row' : List ℕ) : Type 0 where
  pub long : length row' ≡ 16
  pub is : (v : ℕ) → v < width * 64 → has row' v ≡ join k (has row v) (pair ps width n v)

-- there is a row for each child in the body
pub record RowsOf (body ps : List ℕ) (width : ℕ) : Type 0 where
  pub each : (i : ℕ) → i < length body → HasRow ps width (child (get_or body i 0))

-- r has the rows of all children in the body joined
pub record JoinsAll (k : ℕ) (body ps : List ℕ) (width : ℕ) (r : List ℕ) : Type 0 where
  pub long : length r ≡ 16
  pub is : (v : ℕ) → v < width * 64 → width ≤ 16
      → has r v ≡ join_all k (starts_full k) (map (λ (n : ℕ). pair ps width n v) (map child body))
