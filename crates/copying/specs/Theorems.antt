-- What a finished copy of a type into an empty target gives (01, "arena": `compact`).
use Rattle.std.specs.Prelude.{ℕ, ◌<◌, ◌≤◌, ◌≡◌, true, List, [], length, get_or, Ok}
use Rattle.types.specs.Node.{Polarity, positive, Tag, tag, children}
use Rattle.types.specs.Arena.{Arena, at, fold, sound}
use Rattle.types.specs.Places.{Place, Reachable}
use Rattle.walks.specs.Reach.{reach_count}
use Rattle.copying.specs.Copy.{copy}

-- the type of the root was copied from a sound arena u into an empty target of so many words and starts: it became b, with the root m
pub record Compacts (words starts table : ℕ) (u : Arena) (root m : ℕ) (b : Arena) : Type 0 where
  pub few : starts ≤ 4096
  pub good : sound table u ≡ true
  pub inside : root < length u
  pub run : copy words starts u root [] ≡ Ok (m, b)

-- whatever is read off the tags is the same of the type and its copy, so that the two unfold to the same tree
abbrev pub CompactFold : {Y : Type 0} → (Tag → List Y → Y) → Type 0
CompactFold value =
    (words starts table : ℕ) (u : Arena) (root m : ℕ) (b : Arena) → Compacts words starts table u root m b
    → fold value b m ≡ fold value u root

-- node m of b is a copy of node n of u: it has the same tag, and its children are copies in turn
pub data CopyOf (u b : Arena) : ℕ → ℕ → Type 0 where
  copied : {n m : ℕ} → n < length u → m < length b → tag (at b m) ≡ tag (at u n) → length (children (at b m)) ≡ length (children (at u n))
      → ((i : ℕ) → i < length (children (at u n)) → CopyOf u b (get_or (children (at u n)) i 0) (get_or (children (at b m)) i 0))
      → CopyOf u b n m

-- node k of the target is the copy of a node that is reachable from the root
pub record CopyIn (u : Arena) (root : ℕ) (b : Arena) (k : ℕ) : Type 0 where
  pub source : ℕ
  pub reachable : Reachable u root source
  pub copy : CopyOf u b source k

-- each node of the target is one
abbrev pub CompactOnly : Type 0
CompactOnly =
    (words starts table : ℕ) (u : Arena) (root m : ℕ) (b : Arena) → Compacts words starts table u root m b → (k : ℕ) → k < length b
    → CopyIn u root b k

-- a copy of c has a place below m, where m has the sign s
pub record CopyAt (u b : Arena) (m : ℕ) (s : Polarity) (c : ℕ) (p : Polarity) : Type 0 where
  pub number : ℕ
  pub place : Place b m s number p
  pub copy : CopyOf u b c number

-- each reachable node has a copy that is reachable from the target's root, with the same sign
abbrev pub CompactAll : Type 0
CompactAll =
    (words starts table : ℕ) (u : Arena) (root m : ℕ) (b : Arena) → Compacts words starts table u root m b → (c : ℕ) (p : Polarity)
    → Place u root positive c p → CopyAt u b m positive c p

-- the target has as many nodes as are reachable
abbrev pub CompactCount : Type 0
CompactCount =
    (words starts table : ℕ) (u : Arena) (root m : ℕ) (b : Arena) → Compacts words starts table u root m b → length b ≡ reach_count u root
