-- The names of two tables by a map from the numbers of the left: the number and one of the name of the right with the same text, or 0.
use Rattle.std.specs.Prelude.{ℕ, ◌+◌, ◌-◌, ◌<◌, ◌≤◌, ◌≡◌, List, [], length, get_or, drop}
use Rattle.std.proofs.Math.Option.{some}
use Rattle.names.specs.Table.{Name, table, names_of}
use Rattle.name_matching.specs.declared.Reading.{Reading}

-- two names have the same text exactly where the map takes the one to the other, and every entry is 0 or that of a name;
-- past the names of the left stands 0
pub record Matches (ns ms : List Name) (ks : List ℕ) : Type 0 where
  pub long : length ks ≡ 4096
  pub most : (k : ℕ) → get_or ks k 0 ≤ length ms
  pub none : (k : ℕ) → length ns ≤ k → get_or ks k 0 ≡ 0
  pub texts : (k p : ℕ) → k < length ns → p < length ms → get_or ks k 0 ≡ p + 1 → get_or ns k [] ≡ get_or ms p []
  pub numbers : (k p : ℕ) → k < length ns → p < length ms → get_or ns k [] ≡ get_or ms p [] → get_or ks k 0 ≡ p + 1

-- the names of two tables do
pub record Maps (t u ks : List ℕ) : Type 0 where
  pub is : (ns ms : List Name) → names_of t ≡ some ns → names_of u ≡ some ms → Matches ns ms ks

-- two tables, and a map without an entry
pub record Blank (t u ks : List ℕ) : Type 0 where
  pub left : List Name
  pub left_is : names_of t ≡ some left
  pub right : List Name
  pub right_is : names_of u ≡ some right
  pub long : length ks ≡ 4096
  pub none : (k : ℕ) → get_or ks k 0 ≡ 0

-- name i of a table begins at this place
pub record Place (t : List ℕ) (ns : List Name) (i at : ℕ) : Type 0 where
  pub is : names_of t ≡ some ns
  pub low : i ≤ length ns
  pub inside : at ≤ length t
  pub rest : drop at t ≡ table (drop i ns)

-- two tables are read so far; the names passed in the left are matched, and those passed in the right are of none that is left
pub record Read (t u ks : List ℕ) (r : Reading) : Type 0 where
  pub left : List Name
  pub left_place : Place t left r.left r.left_at
  pub right : List Name
  pub right_place : Place u right r.right r.right_at
  pub long : length ks ≡ 4096
  pub later : (k : ℕ) → r.left ≤ k → get_or ks k 0 ≡ 0
  pub most : (k : ℕ) → get_or ks k 0 ≤ length right
  pub texts : (k p : ℕ) → k < r.left → p < length right → get_or ks k 0 ≡ p + 1 → get_or left k [] ≡ get_or right p []
  pub numbers : (k p : ℕ) → k < r.left → p < length right → get_or left k [] ≡ get_or right p [] → get_or ks k 0 ≡ p + 1
  pub passed : (k p : ℕ) → r.left ≤ k → k < length left → p < r.right → get_or left k [] ≡ get_or right p [] → ⊥

-- and both have another name
pub record Next (t u ks : List ℕ) (r : Reading) : Type 0 where
  pub read : Read t u ks r
  pub left_more : r.left_at < length t
  pub right_more : r.right_at < length u

-- they are read further
pub record Steps (t u : List ℕ) (r : Reading) (ks : List ℕ) (q : Reading) : Type 0 where
  pub read : Read t u ks q
  pub further : length t - q.left_at + (length u - q.right_at) < length t - r.left_at + (length u - r.right_at)
