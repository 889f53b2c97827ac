-- Pairs of types and whether they are structurally equal.
use Rattle.std.specs.Prelude.{ℕ, Bool, true, false, List, [], ◌∷◌, map, reverse}
use Prim.Native.String.{String}
use Rattle.types.specs.Bytes.{bytes}
use Rattle.types.specs.Node.{positive, Field, field, primitive, attrset, named, members, var, form, Node, node}
use Rattle.equal.specs.Equal.{equal}

-- what the definition gives, and what it should give
pub record Case : Type 0 where
  pub gives : Bool
  pub says : Bool

-- the names of a table, its arena's nodes from node 0 on, and the root; twice
abbrev compared : List String → List Node → ℕ → List String → List Node → ℕ → Bool → Case
compared ns xs m ms ys n b = record { gives = equal (map bytes ns) (reverse xs) m (map bytes ms) (reverse ys) n; says = b }

abbrev a : Node
a = node (var 0) []

abbrev int : Node
int = node (form (primitive 2)) []

-- a set of two fields
abbrev set : Field → Field → Bool → ℕ → ℕ → Node
set f g open_so m n = node (form (attrset (f ∷ g ∷ []) false open_so)) (m ∷ n ∷ [])

-- the left of four pairs: p: a, q?: int, open
abbrev left : List Node → ℕ → Bool → Case
left ys n = compared ("p" ∷ "q" ∷ []) (a ∷ int ∷ set (field false 0) (field true 1) true 0 1 ∷ []) 2 ("n" ∷ "p" ∷ "q" ∷ []) ys n

-- a union of a node with itself
abbrev twice : ℕ → Node
twice n = node (members positive) (n ∷ n ∷ [])

abbrev pub worked : List Case
worked =
    -- other numbers of nodes and of names; then an optional mark, openness, and a name that differ
    left (int ∷ a ∷ set (field false 1) (field true 2) true 1 0 ∷ []) 2 true
    ∷ left (int ∷ a ∷ set (field false 1) (field false 2) true 1 0 ∷ []) 2 false
    ∷ left (int ∷ a ∷ set (field false 1) (field true 2) false 1 0 ∷ []) 2 false
    ∷ left (int ∷ a ∷ set (field false 0) (field true 2) true 1 0 ∷ []) 2 false
    -- the same number of two names
    ∷ compared ("p" ∷ []) (int ∷ node (form (named 0)) (0 ∷ []) ∷ []) 1 ("q" ∷ []) (int ∷ node (form (named 0)) (0 ∷ []) ∷ []) 1 false
    -- a ladder: 8 places of a variable; a step less has 4
    ∷ compared [] (a ∷ twice 0 ∷ twice 1 ∷ twice 2 ∷ []) 3 [] (int ∷ a ∷ twice 1 ∷ twice 2 ∷ twice 3 ∷ []) 4 true
    ∷ compared [] (a ∷ twice 0 ∷ twice 1 ∷ twice 2 ∷ []) 2 [] (int ∷ a ∷ twice 1 ∷ twice 2 ∷ twice 3 ∷ []) 4 false
    ∷ []
