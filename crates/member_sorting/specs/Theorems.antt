-- The sort gives an ascending arrangement of the same members (01, "arena": `normalize_set_ops` sorts by node order).
use Rattle.std.specs.Prelude.{ℕ, ◌≡◌, length}
use mathlib.Core.List.{List, [], ◌∷◌, Memᴰ as Mem}
use Rattle.types.specs.Arena.{Arena, at}
use Rattle.std.specs.declared.cmp.Ordering.TheVariants.{Greater}
use Rattle.node_order.specs.NodeOrder.{node_order}
use Rattle.member_sorting.specs.Sort.{sort}

-- ---- an arrangement
-- ys is xs with m somewhere
pub data Inserted (m : ℕ) : List ℕ → List ℕ → Type 0 where
  here : {xs : List ℕ} → Inserted m xs (m ∷ xs)
  later : {x : ℕ} {xs ys : List ℕ} → Inserted m xs ys → Inserted m (x ∷ xs) (x ∷ ys)

-- l is xs with each of the members somewhere
pub data Arranged : List ℕ → List ℕ → List ℕ → Type 0 where
  none : {l : List ℕ} → Arranged l [] l
  one : {m : ℕ} {xs ys ms l : List ℕ} → Inserted m xs ys → Arranged ys ms l → Arranged xs (m ∷ ms) l

-- ---- in order
-- node m doesn't come after node n
abbrev pub NotAfter : Arena → ℕ → ℕ → Type 0
NotAfter a m n = node_order (at a m) (at a n) ≡ Greater → ⊥

-- no member comes after the next
pub data Ascending (a : Arena) : List ℕ → Type 0 where
  empty : Ascending a []
  single : {m : ℕ} → Ascending a (m ∷ [])
  several : {m n : ℕ} {ms : List ℕ} → NotAfter a m n → Ascending a (n ∷ ms) → Ascending a (m ∷ n ∷ ms)

-- l is a sorted arrangement of the members
pub record SortOf (a : Arena) (ms l : List ℕ) : Type 0 where
  pub ascending : Ascending a l
  pub arranged : Arranged [] ms l
  pub count : length l ≡ length ms
  pub from : (x : ℕ) → Mem x l → Mem x ms
  pub onto : (x : ℕ) → Mem x ms → Mem x l

-- and so is what the sort gives
abbrev pub SortedMembers : Type 0
SortedMembers = (a : Arena) (ms : List ℕ) → SortOf a ms (sort a ms)
