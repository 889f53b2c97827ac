-- What is shown of the type that `normalize_set_ops` gives (01, "arena"): its shape, and what it has in common with the type given.
use Rattle.std.specs.Prelude.{ℕ, ◌<◌, ◌≤◌, ◌≡◌, true, length, Ok}
use mathlib.Core.List.{List, [], ◌∷◌, ◌++◌, Memᴰ as Mem}
use Rattle.types.specs.Node.{Polarity, Tag, members, tag, children}
use Rattle.types.specs.Arena.{Arena, at, fold, sound}
use Rattle.set_op_lists.specs.SetOps.{normalize_set_ops}

-- ---- its shape
-- a list without repeats
pub data Distinct : List ℕ → Type 0 where
  empty : Distinct []
  several : {x : ℕ} {xs : List ℕ} → (Mem x xs → ⊥) → Distinct xs → Distinct (x ∷ xs)

-- a list of kind k with these members has two or more, all different, none of its own kind
pub record NeatList (a : Arena) (k : Polarity) (ms : List ℕ) : Type 0 where
  pub two : 2 ≤ length ms
  pub different : Distinct ms
  pub no_own_kind : (c : ℕ) → Mem c ms → tag (at a c) ≡ members k → ⊥

-- every list in the type of node m is so
pub data Neat (a : Arena) : ℕ → Type 0 where
  neat : {m : ℕ} → ((c : ℕ) → Mem c (children (at a m)) → Neat a c)
      → ((k : Polarity) → tag (at a m) ≡ members k → NeatList a k (children (at a m))) → Neat a m

-- and every list in the type that `normalize_set_ops` gives
abbrev pub NormalizedNeat : Type 0
NormalizedNeat =
    (words starts table : ℕ) → starts ≤ 4096 → (a : Arena) → sound table a ≡ true → (root : ℕ) → root < length a → (m : ℕ) (b : Arena)
    → normalize_set_ops words starts root a ≡ Ok (m, b) → Neat b m

-- ---- what stays the same
-- the type of the root was normalized in a sound arena a, lent so many words and starts: it became b, with the root m
pub record Normalizes (words starts table : ℕ) (a : Arena) (root m : ℕ) (b : Arena) : Type 0 where
  pub few : starts ≤ 4096
  pub good : sound table a ≡ true
  pub inside : root < length a
  pub run : normalize_set_ops words starts root a ≡ Ok (m, b)

-- the value of a member list depends only on the set of its members' values: a list of one has that one's value; order and repeats don't
-- matter; and a member that is itself a list of the same kind may give way to its own members
pub record ByMembers {Y : Type 0} (value : Tag → List Y → Y) : Type 0 where
  pub one : (k : Polarity) (y : Y) → value (members k) (y ∷ []) ≡ y
  pub same : (k : Polarity) (xs ys : List Y) → ((y : Y) → Mem y xs → Mem y ys) → ((y : Y) → Mem y ys → Mem y xs)
      → value (members k) xs ≡ value (members k) ys
  pub spliced : (k : Polarity) (xs ys : List Y) → value (members k) (value (members k) xs ∷ ys) ≡ value (members k) (xs ++ ys)

-- such a value is the same of the type given and of the type it became
abbrev pub NormalizedFold : {Y : Type 0} → (Tag → List Y → Y) → Type 0
NormalizedFold value =
    ByMembers value → (words starts table : ℕ) (a : Arena) (root m : ℕ) (b : Arena) → Normalizes words starts table a root m b
    → fold value b m ≡ fold value a root
