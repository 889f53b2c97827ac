-- The Rust's paths, and what it would merge by them (document 000). 01 has them go, since nothing is ever merged: the theorem
-- `nothing_merged`.
use Rattle.std.specs.Prelude.{ℕ, zero, suc, ◌≤◌, ◌<◌, ◌≡◌, List, [], ◌∷◌, ◌++◌, ◌↔◌, length, get_or}
use Rattle.types.specs.Places.{Occurs}
use Rattle.types.specs.Node.{Polarity, Field, field, primitive, list, lambda, attrset, named, Tag, members, bound, var, neg, form, tag}
use Rattle.types.specs.Node.{children}
use Rattle.types.specs.Arena.{Arena, at}

-- a step of a path: a lambda's param or body, a list's element, the field of a set that has this name, a set's dynamic part, a member of a
-- list of either kind by its index. The names of a table differ, so that a number stands for a name
pub data PathSegment : Type 0 where
  lambda_param : PathSegment
  lambda_body : PathSegment
  list_elem : PathSegment
  attr_field : ℕ → PathSegment
  attr_dyn : PathSegment
  member : Polarity → ℕ → PathSegment

abbrev pub TypePath : Type 0
TypePath = List PathSegment

-- to child i of a function: the first is its param
abbrev pub lambda_segment : ℕ → PathSegment
lambda_segment zero = lambda_param
lambda_segment (suc i) = lambda_body

-- to child i of a set with these fields: the child after theirs is the dynamic part
unfoldable pub attr_segment : List Field → ℕ → PathSegment
attr_segment [] i = attr_dyn
attr_segment (field o n ∷ fs) zero = attr_field n
attr_segment (field o n ∷ fs) (suc i) = attr_segment fs i

-- what a path has for child i of a node: one step, but none at `Neg` and `Named` (the Rust's `analyze`)
unfoldable pub segments : Tag → ℕ → TypePath
unfolding attr_segment
segments (members k) i = member k i ∷ []
segments (bound k) i = []
segments (var v) i = []
segments neg i = []
segments (form (primitive c)) i = []
segments (form list) i = list_elem ∷ []
segments (form lambda) i = lambda_segment i ∷ []
segments (form (attrset fs d o)) i = attr_segment fs i ∷ []
segments (form (named n)) i = []

-- the path π leads from node n to the variable v. The paths of a variable are what the Rust calls its occurrences
pub data PathTo (a : Arena) : ℕ → TypePath → ℕ → Type 0 where
  here : {n v : ℕ} → tag (at a n) ≡ var v → PathTo a n [] v
  down : {n v : ℕ} {π : TypePath} (i : ℕ) → i < length (children (at a n)) → PathTo a (get_or (children (at a n)) i 0) π v
      → PathTo a n (segments (tag (at a n)) i ++ π) v

-- two variables that the Rust puts into one group: seen with both signs, and with the same set of paths (`build_cooccurrence_substitution`)
pub record Grouped (a : Arena) (root v w : ℕ) : Type 0 where
  pub first : (s : Polarity) → Occurs a root v s
  pub second : (s : Polarity) → Occurs a root w s
  pub same : (π : TypePath) → PathTo a root π v ↔ PathTo a root π w

-- its substitution has w for v: w is the smallest of v's group, and another variable
pub record Merged (a : Arena) (root v w : ℕ) : Type 0 where
  pub grouped : Grouped a root v w
  pub smaller : w < v
  pub smallest : (u : ℕ) → Grouped a root v u → w ≤ u
