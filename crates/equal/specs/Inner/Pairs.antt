-- Pairs of nodes that must be equal if the roots are: at most one partner in the right arena for each node of the left.
use Rattle.std.specs.Prelude.{ℕ, ◌+◌, ◌<◌, ◌≡◌, Bool, true, false, List, ◌⊎◌, length, get_or}
use Rattle.types.specs.Out.{Out}
use Rattle.types.specs.Node.{tag, children}
use Rattle.types.specs.Arena.{Arena, at}
use Rattle.types.specs.Fault.{children_in}
use Rattle.types.specs.declared.Counters.{Counters}
use Rattle.names.specs.Table.{Name}
use Rattle.equal.specs.Equal.{label_of, tree, equal}
use Rattle.soundness.specs.Lent.{lent_to}
use Rattle.soundness.specs.Inner.Sides.{Side}
use Rattle.equal.specs.Reply.{equal_roots}
use Rattle.name_matching.specs.Inner.{Matches}

-- p is the partner of node k: its number and one stands at k, where 0 is none
abbrev pub Pair : List ℕ → ℕ → ℕ → Type 0
Pair ps k p = get_or ps k 0 ≡ p + 1

-- there is a place for each node of an arena, and both numbers are those of nodes
pub record Fit (ps : List ℕ) (k p : ℕ) : Type 0 where
  pub long : length ps ≡ 4096
  pub left : k < 4096
  pub right : p < 4096

-- node k has another partner than p
pub record Other (ps : List ℕ) (k p : ℕ) : Type 0 where
  pub partner : ℕ
  pub there : Pair ps k partner
  pub differs : partner ≡ p → ⊥

-- node k gets the partner p, or has another; nothing else changes
pub record Gives (ps : List ℕ) (k p : ℕ) (qs : List ℕ) (r : Bool) : Type 0 where
  pub long : length qs ≡ length ps
  pub kept : (j q : ℕ) → Pair ps j q → Pair qs j q
  pub only : (j q : ℕ) → Pair qs j q → Pair ps j q ⊎ ((j ≡ k) × (q ≡ p))
  pub given : r ≡ true → Pair qs k p
  pub other : r ≡ false → Other qs k p

-- k and p stand at one place of the two lists
pub record Beside (cs ds : List ℕ) (k p : ℕ) : Type 0 where
  pub index : ℕ
  pub inside : index < length cs
  pub left : k ≡ get_or cs index 0
  pub right : p ≡ get_or ds index 0

-- a number of the one list has another partner than the one beside it
pub record Clash (cs ds ps : List ℕ) : Type 0 where
  pub node : ℕ
  pub beside : ℕ
  pub pair : Beside cs ds node beside
  pub other : Other ps node beside

-- two nodes' words with as many children, and a place for each node
pub record Level (v w ps : List ℕ) : Type 0 where
  pub count : length (children_in v) ≡ length (children_in w)
  pub long : length ps ≡ 4096

-- each number of the one list gets the one beside it as its partner, or one has another; nothing else changes
pub record GivesAll (cs ds ps qs : List ℕ) (r : Bool) : Type 0 where
  pub long : length qs ≡ length ps
  pub kept : (j q : ℕ) → Pair ps j q → Pair qs j q
  pub only : (j q : ℕ) → Pair qs j q → Pair ps j q ⊎ Beside cs ds j q
  pub given : r ≡ true → (j q : ℕ) → Beside cs ds j q → Pair qs j q
  pub clash : r ≡ false → Clash cs ds qs

-- nodes k and p have the same label and as many children, and children beside one another are partners
pub record Matched (ns : List Name) (a : Arena) (ms : List Name) (b : Arena) (ps : List ℕ) (k p : ℕ) : Type 0 where
  pub labels : label_of ns (tag (at a k)) ≡ label_of ms (tag (at b p))
  pub counts : length (children (at a k)) ≡ length (children (at b p))
  pub paired : (j q : ℕ) → Beside (children (at a k)) (children (at b p)) j q → Pair ps j q

-- all partners have equal trees
pub record Agreeing (ns : List Name) (a : Arena) (ms : List Name) (b : Arena) (ps : List ℕ) : Type 0 where
  pub trees : (k p : ℕ) → Pair ps k p → tree ns a k ≡ tree ms b p

-- j and q are children, beside one another, of node n and its partner
pub record Below (a b : Arena) (ps : List ℕ) (n j q : ℕ) : Type 0 where
  pub partner : ℕ
  pub there : Pair ps n partner
  pub beside : Beside (children (at a n)) (children (at b partner)) j q

-- node n, where it has a partner, is matched with it, or not all partners can have equal trees; nothing changes but for their children
pub record Visit (ns : List Name) (a : Arena) (ms : List Name) (b : Arena) (n : ℕ) (ps qs : List ℕ) (r : Bool) : Type 0 where
  pub long : length qs ≡ length ps
  pub kept : (j q : ℕ) → Pair ps j q → Pair qs j q
  pub only : (j q : ℕ) → Pair qs j q → Pair ps j q ⊎ Below a b ps n j q
  pub matched : r ≡ true → (p : ℕ) → Pair ps n p → Matched ns a ms b qs n p
  pub refuted : r ≡ false → Agreeing ns a ms b ps → ⊥

-- both sides
pub record Sides (t w s : List ℕ) (c : Counters) (u v r : List ℕ) (d : Counters) : Type 0 where
  pub left : Side t w s c
  pub right : Side u v r d

-- two sides whose names are matched by a map, of whatever tables
pub record Mapped (ks w s : List ℕ) (c : Counters) (v r : List ℕ) (d : Counters) : Type 0 where
  pub left_table : List ℕ
  pub right_table : List ℕ
  pub left : Side left_table w s c
  pub right : Side right_table v r d
  pub matches : Matches left.names right.names ks

-- and a node of the left; partners are nodes of the right
pub record Visiting (ks w s : List ℕ) (c : Counters) (v r : List ℕ) (d : Counters) (n : ℕ) (ps : List ℕ) : Type 0 where
  pub sides : Mapped ks w s c v r d
  pub inside : n < c.nodes
  pub partners : (k p : ℕ) → Pair ps k p → p < d.nodes
  pub long : length ps ≡ 4096

pub record Visited (ks w s : List ℕ) (c : Counters) (v r : List ℕ) (d : Counters) (n : ℕ) (ps qs : List ℕ) (o : Bool) : Type 0 where
  pub is : (X : Mapped ks w s c v r d) → Visit X.left.names X.left.view X.right.names X.right.view n ps qs o

-- two sides so matched with a root each, and no partners yet
pub record Fresh (ks w s : List ℕ) (c : Counters) (m : ℕ) (v r : List ℕ) (d : Counters) (n : ℕ) (ps : List ℕ) : Type 0 where
  pub sides : Mapped ks w s c v r d
  pub left_inside : m < c.nodes
  pub right_inside : n < d.nodes
  pub long : length ps ≡ 4096
  pub none : (k : ℕ) → get_or ps k 0 ≡ 0

-- o says whether they are equal
pub record Decides (ks w s : List ℕ) (c : Counters) (m : ℕ) (v r : List ℕ) (d : Counters) (n : ℕ) (o : Bool) : Type 0 where
  pub is : (X : Mapped ks w s c v r d) → o ≡ equal X.left.names X.left.view m X.right.names X.right.view n

-- both sides with a root each
pub record Roots (t w s : List ℕ) (c : Counters) (m : ℕ) (u v r : List ℕ) (d : Counters) (n : ℕ) : Type 0 where
  pub sides : Sides t w s c u v r d
  pub left_inside : m < c.nodes
  pub right_inside : n < d.nodes

-- o says whether they are equal
pub record Tells (t w s : List ℕ) (c : Counters) (m : ℕ) (u v r : List ℕ) (d : Counters) (n : ℕ) (o : Bool) : Type 0 where
  pub is : (L : Side t w s c) (R : Side u v r d) → o ≡ equal L.names L.view m R.names R.view n

-- o is the answer, after 1 and 2 of both sides
pub record Answers (t w s : List ℕ) (c : Counters) (m : ℕ) (u v r : List ℕ) (d : Counters) (n : ℕ) (o : Out Bool) : Type 0 where
  pub is : (L : Side t w s c) (R : Side u v r d) → o ≡ equal_roots m n L.names L.view R.names R.view

-- o is the answer, after 1 and 2 of the left
pub record RightAnswers (t w s : List ℕ) (c : Counters) (m : ℕ) (u v r : List ℕ) (d : Counters) (n : ℕ) (o : Out Bool) : Type 0 where
  pub is : (L : Side t w s c) → o ≡ lent_to u v r d (λ (ms : List Name) (b : Arena). equal_roots m n L.names L.view ms b)
