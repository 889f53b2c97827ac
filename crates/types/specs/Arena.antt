-- An arena is the list of its nodes, the newest first: a node's number is how many stand behind it.
use Rattle.std.specs.Prelude.{ℕ, Bool, true, false, ◌&&◌, List, [], ◌∷◌, map, length, eqb}
use Rattle.std.proofs.Math.Option.{Option, none, some}
use Rattle.types.specs.Same.{same}
use Rattle.types.specs.Node.{Node, node, Tag, bound, positive, tag, children, node_dec, well, well_in}

-- the newest node first
abbrev pub Arena : Type 0
Arena = List Node

-- node n, and `never` past the end
unfoldable pub at : Arena → ℕ → Node
at [] n = node (bound positive) []
at (x ∷ s) n = elim (eqb n (length s)) [ true ↦ x | false ↦ at s n ]

-- recursion from a node to those behind it: `step` is given the arena behind the node, the node, and what the recursion gives there
module _ {ℓ} {Y : Type ℓ} (step : Arena → Node → (ℕ → Y) → Y) (y : Y) where
  unfoldable pub rec : Arena → ℕ → Y
  rec [] n = y
  rec (x ∷ s) n = elim (eqb n (length s)) [ true ↦ step s x (rec s) | false ↦ rec s n ]

-- a value for each node, from its tag and its children's values; past the end that of `never`
module _ {ℓ} {Y : Type ℓ} (value : Tag → List Y → Y) where
  unfoldable pub fold : Arena → ℕ → Y
  unfolding rec
  fold = rec (λ s x f. value (tag x) (map f (children x))) (value (bound positive) [])

-- the number of the node that equals x
unfoldable pub find : Node → Arena → Option ℕ
unfolding same node_dec
find x [] = none
find x (y ∷ s) = elim (same node_dec x y) [ true ↦ some (length s) | false ↦ find x s ]

-- was nothing found?
abbrev pub absent : Option ℕ → Bool
absent none = true
absent (some n) = false

-- each node is well formed with children of lower number and names of the table, and no two are equal (01, "Words of the arena")
unfoldable pub sound : ℕ → Arena → Bool
unfolding find well_in
sound table [] = true
sound table (x ∷ s) = well table (length s) x && (absent (find x s) && sound table s)

-- the arena a grew from b: b's nodes are still there, under their numbers
pub data Ext (b : Arena) : Arena → Type 0 where
  here : Ext b b
  more : {a : Arena} (x : Node) → Ext b a → Ext b (x ∷ a)
