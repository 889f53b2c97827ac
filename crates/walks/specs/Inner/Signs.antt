-- Which nodes have a place, by sign (01, "Places and passes"): two sets of node numbers, one for each sign.
use Rattle.std.specs.Prelude.{ℕ, ◌<◌, ◌≡◌, Bool, true, false, ◌&&◌, ◌||◌, List, ◌⊎◌, length, get_or, eqb}
use Rattle.words.specs.Words.{head_kind}
use Rattle.types.specs.Kind.{disc, lambda, neg}
use Rattle.types.specs.Node.{Polarity, positive, negative, tag, children}
use Rattle.types.specs.Arena.{Arena, at}
use Rattle.types.specs.Fault.{children_in}
use Rattle.types.specs.Places.{child_sign, Place}
use Rattle.types.specs.Memory.{Holds}
use Rattle.types.specs.declared.Counters.{Counters}
use Rattle.bits.specs.Bits.{has}
use Rattle.node_store.specs.Inner.Stored.{Lent}

-- the set of one sign, of two
abbrev pub side : Polarity → List ℕ → List ℕ → List ℕ
side positive p q = p
side negative p q = q

-- a sign as a flag
abbrev pub sign_of : Bool → Polarity
sign_of true = positive
sign_of false = negative

-- the sets hold exactly the nodes with a positive place, and those with a negative one
pub record Signs (a : Arena) (root : ℕ) (p q : List ℕ) : Type 0 where
  pub sound : (s : Polarity) (u : ℕ) → has (side s p q) u ≡ true → Place a root positive u s
  pub complete : (s : Polarity) (u : ℕ) → Place a root positive u s → has (side s p q) u ≡ true

-- does a node of this kind turn the sign of child i?
unfoldable pub turned : ℕ → ℕ → Bool
turned k i = eqb k (disc neg) || (eqb k (disc lambda) && eqb i 0)

-- the flag of a child's sign, from its parent's and whether it is turned
unfoldable pub flag_after : Bool → Bool → Bool
flag_after true true = false
flag_after true false = true
flag_after false true = true
flag_after false false = false

-- both sets have their 64 words
pub record Rows (p q : List ℕ) : Type 0 where
  pub first : length p ≡ 64
  pub second : length q ≡ 64

-- and the number n fits
pub record Room (p q : List ℕ) (n : ℕ) : Type 0 where
  pub rows : Rows p q
  pub small : n < 4096

-- the number n is put into the set of the sign s, and nothing else changes
pub record Adds (p q : List ℕ) (s : Polarity) (n : ℕ) (p' q' : List ℕ) : Type 0 where
  pub rows : Rows p' q'
  pub new : has (side s p' q') n ≡ true
  pub kept : (t : Polarity) (u : ℕ) → has (side t p q) u ≡ true → has (side t p' q') u ≡ true
  pub only : (t : Polarity) (u : ℕ) → has (side t p' q') u ≡ true → (has (side t p q) u ≡ true) ⊎ ((t ≡ s) × (u ≡ n))

-- u is one of the first k children in the words ws of a node, where the sign is t if the node's is that of the flag
pub record WordChild (ws : List ℕ) (flag : Bool) (k : ℕ) (t : Polarity) (u : ℕ) : Type 0 where
  pub index : ℕ
  pub early : index < k
  pub sign : t ≡ sign_of (flag_after flag (turned (head_kind (get_or ws 0 0)) index))
  pub is : u ≡ get_or (children_in ws) index 0

-- the first k children in the words are put into the sets of their signs, and nothing else changes
pub record AddsSome (ws : List ℕ) (flag : Bool) (k : ℕ) (p q p' q' : List ℕ) : Type 0 where
  pub rows : Rows p' q'
  pub kept : (t : Polarity) (u : ℕ) → has (side t p q) u ≡ true → has (side t p' q') u ≡ true
  pub new : (t : Polarity) (u : ℕ) → WordChild ws flag k t u → has (side t p' q') u ≡ true
  pub only : (t : Polarity) (u : ℕ) → has (side t p' q') u ≡ true → (has (side t p q) u ≡ true) ⊎ WordChild ws flag k t u

-- all of them
pub record AddsWords (ws : List ℕ) (flag : Bool) (p q p' q' : List ℕ) : Type 0 where
  pub is : AddsSome ws flag (length (children_in ws)) p q p' q'

-- u is a child of node n, where the sign is t if the node's is s
pub record ChildOf (a : Arena) (n : ℕ) (s : Polarity) (t : Polarity) (u : ℕ) : Type 0 where
  pub index : ℕ
  pub inside : index < length (children (at a n))
  pub sign : t ≡ child_sign (tag (at a n)) index s
  pub is : u ≡ get_or (children (at a n)) index 0

-- the children of node n, at the sign s, are put into the sets of their signs, and nothing else changes
pub record AddsAll (w s : List ℕ) (c : Counters) (n : ℕ) (sign : Polarity) (p q p' q' : List ℕ) : Type 0 where
  pub rows : Rows p' q'
  pub kept : (t : Polarity) (u : ℕ) → has (side t p q) u ≡ true → has (side t p' q') u ≡ true
  pub new : (table : ℕ) (a : Arena) → Holds table w s c a → (t : Polarity) (u : ℕ) → ChildOf a n sign t u → has (side t p' q') u ≡ true
  pub only : (table : ℕ) (a : Arena) → Holds table w s c a → (t : Polarity) (u : ℕ) → has (side t p' q') u ≡ true
      → (has (side t p q) u ≡ true) ⊎ ChildOf a n sign t u

-- the same, if node n is in the set of the sign s
pub record Visits (w s : List ℕ) (c : Counters) (n : ℕ) (sign : Polarity) (p q p' q' : List ℕ) : Type 0 where
  pub rows : Rows p' q'
  pub kept : (t : Polarity) (u : ℕ) → has (side t p q) u ≡ true → has (side t p' q') u ≡ true
  pub new : (table : ℕ) (a : Arena) → Holds table w s c a → has (side sign p q) n ≡ true → (t : Polarity) (u : ℕ) → ChildOf a n sign t u
      → has (side t p' q') u ≡ true
  pub only : (table : ℕ) (a : Arena) → Holds table w s c a → (t : Polarity) (u : ℕ) → has (side t p' q') u ≡ true
      → (has (side t p q) u ≡ true) ⊎ ((has (side sign p q) n ≡ true) × ChildOf a n sign t u)

-- memory holds an arena with a node n, and both sets have their words
pub record Marking (w s : List ℕ) (c : Counters) (n : ℕ) (p q : List ℕ) : Type 0 where
  pub lent : Lent w s c
  pub inside : n < c.nodes
  pub rows : Rows p q

-- the sets are those of the root's type, in any arena that memory holds
pub record SignsIn (w s : List ℕ) (c : Counters) (root : ℕ) (p q : List ℕ) : Type 0 where
  pub is : (table : ℕ) (a : Arena) → Holds table w s c a → Signs a root p q
