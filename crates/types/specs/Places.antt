-- Places and their signs (01, "Places and passes"; docs/PAPER.md, "Polarity of an occurrence").
use Rattle.std.specs.Prelude.{ℕ, zero, suc, ◌<◌, ◌≡◌, length, get_or}
use Rattle.types.specs.Node.{Polarity, positive, negative, primitive, list, lambda, attrset, named, Tag, members, bound, var, neg}
use Rattle.types.specs.Node.{form, tag, children}
use Rattle.types.specs.Arena.{Arena, at}

-- the other side
abbrev pub opposite : Polarity → Polarity
opposite positive = negative
opposite negative = positive

-- the sign of a function's children: its parameter, the first, turns the sign, and its result keeps it
abbrev pub lambda_sign : ℕ → Polarity → Polarity
lambda_sign zero s = opposite s
lambda_sign (suc i) s = s

-- the sign of child i of a node at the sign s: `Neg` turns it too, and all else keeps it
unfoldable pub child_sign : Tag → ℕ → Polarity → Polarity
child_sign (members k) i s = s
child_sign (bound k) i s = s
child_sign (var v) i s = s
child_sign neg i s = opposite s
child_sign (form (primitive c)) i s = s
child_sign (form list) i s = s
child_sign (form lambda) i s = lambda_sign i s
child_sign (form (attrset fs d o)) i s = s
child_sign (form (named n)) i s = s

-- "place" is 01's term: a path of children from the node n, at the sign s, to the node u, where the sign is p. A shared node has a place
-- for each path
pub data Place (a : Arena) : ℕ → Polarity → ℕ → Polarity → Type 0 where
  self : {n : ℕ} {s : Polarity} → Place a n s n s
  down : {n u : ℕ} {s p : Polarity} (i : ℕ) → i < length (children (at a n))
      → Place a (get_or (children (at a n)) i 0) (child_sign (tag (at a n)) i s) u p → Place a n s u p

-- u has a place in the type of the root; the root is positive
pub record Reachable (a : Arena) (root u : ℕ) : Type 0 where
  pub sign : Polarity
  pub place : Place a root positive u sign

-- in the type of node n, at the sign s, the variable v has a place of the sign p
pub record Has (a : Arena) (n : ℕ) (s : Polarity) (v : ℕ) (p : Polarity) : Type 0 where
  pub number : ℕ
  pub place : Place a n s number p
  pub is : tag (at a number) ≡ var v

-- the variable v occurs with the sign p in the type of the root, which is positive: it has a place of that sign there
abbrev pub Occurs : Arena → ℕ → ℕ → Polarity → Type 0
Occurs a root v p = Has a root positive v p

-- "polar form" is 01's term: unions have only positive places, and intersections only negative ones
pub record Polar (a : Arena) (root : ℕ) : Type 0 where
  pub sides : (u : ℕ) (p k : Polarity) → Place a root positive u p → tag (at a u) ≡ members k → p ≡ k
