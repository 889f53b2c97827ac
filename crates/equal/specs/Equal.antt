-- When two nodes, of two arenas, are structurally equal (01, "arena"): when their unfolded trees are, in which nothing is shared and names
-- are texts.
use Rattle.std.specs.Prelude.{ℕ, Bool, List, [], ◌∷◌, map, get_or}
use Rattle.std.proofs.Math.Bool.{Bool-discrete}
use Rattle.std.proofs.Math.Decide.{ℕ_discrete}
use Rattle.types.specs.Same.{list_dec, numbers_dec, same}
use Rattle.types.specs.Kind.{disc}
use Rattle.types.specs.Node.{Field, field, Tag, kind, data_of}
use Rattle.types.specs.Arena.{Arena, fold}
use Rattle.names.specs.Table.{Name}

-- a field besides its child: is it optional, and the text of its name
pub data Spelling : Type 0 where
  spelling : Bool → Name → Spelling
  deriving Discrete as Spelling-dec

-- what a node carries besides its children: the number of its kind, a number of its own, its fields, whether it has a dynamic part, whether
-- it is open
pub data Label : Type 0 where
  label : ℕ → List ℕ → List Spelling → Bool → Bool → Label
  deriving Discrete as Label-dec

-- a tree of labels: a label without children, or a first child and the tree that is left without it
pub data Tree : Type 0 where
  bare : Label → Tree
  first : Tree → Tree → Tree
  deriving Discrete as Tree-dec

-- the tree of a label over these children
unfoldable pub over : Label → List Tree → Tree
over l [] = bare l
over l (t ∷ ts) = first t (over l ts)

-- a field with its name as a text, under a table of these names
abbrev pub spell : List Name → Field → Spelling
spell ns (field o n) = spelling o (get_or ns n [])

-- what a tag says, with names as texts
abbrev pub label_of : List Name → Tag → Label
label_of ns t = label (disc (kind t)) (data_of t).numbers (map (spell ns) (data_of t).fields) (data_of t).dynamic (data_of t).opened

-- the unfolded tree of a node
unfoldable pub tree : List Name → Arena → ℕ → Tree
unfolding fold over
tree ns = fold (λ (t : Tag) (ts : List Tree). over (label_of ns t) ts)

-- two fields, two lists of them, two labels, two trees are equal, or they are not
unfoldable pub spelling_dec : Discrete Spelling
unfolding numbers_dec
spelling_dec = Spelling-dec Bool-discrete numbers_dec

unfoldable pub spellings_dec : Discrete (List Spelling)
unfolding list_dec spelling_dec
spellings_dec = list_dec spelling_dec

unfoldable pub label_dec : Discrete Label
unfolding numbers_dec spellings_dec ℕ_discrete
label_dec = Label-dec ℕ_discrete numbers_dec spellings_dec Bool-discrete

unfoldable pub tree_dec : Discrete Tree
unfolding label_dec
tree_dec = Tree-dec label_dec

-- is node m of the one arena structurally equal to node n of the other, each with the names of its table?
unfoldable pub equal : List Name → Arena → ℕ → List Name → Arena → ℕ → Bool
unfolding same tree_dec tree
equal ns a m ms b n = same tree_dec (tree ns a m) (tree ms b n)
