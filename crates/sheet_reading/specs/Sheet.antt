-- What a sheet says, read from the front: the first fault met is the answer (01, "A sheet and its line"). The layout of its field words and
-- the most names that it may have are a parameter (02, A2).
use Prim.Native.Nat.{ℕ, zero, suc, ◌+◌, ◌*◌}
use Rattle.std.proofs.Math.Bool.{true, false}
use Rattle.std.specs.Prelude.{◌&&◌, length, take, drop, eqb, leb, ltb, Ok, Err}
use mathlib.Core.List.{List, [], ◌∷◌, ◌++◌}
use Rattle.std.proofs.Math.Option.{none, some}
use Rattle.words.specs.Words.{head_count}
use Rattle.words.specs.declared.Layout.{Layout}
use Rattle.words.specs.declared.Layout.TheVariants as layout
use Rattle.types.specs.declared.refusal.Refusal.TheVariants as refusal
use Rattle.types.specs.Out.{Out, ◌>>=◌}
use Rattle.types.specs.Node.{Node, decode_in}
use Rattle.types.specs.Fault.{head_fits}
use Rattle.types.specs.Arena.{Arena, find}
use Rattle.names.specs.Table.{Name, may_follow, most_names}
use Rattle.node_store.specs.Intern.{has_room}

-- a reader takes bytes from the front: what they say with the bytes that are left, or the number of the first fault
abbrev pub Reader : Type 0 → Type 0
Reader A = List ℕ → Out (A × List ℕ)

-- so many bytes; 10 where one is missing
unfoldable pub several : ℕ → Reader (List ℕ)
several k bs = elim (leb k (length bs)) [ true ↦ Ok (take k bs, drop k bs) | false ↦ Err refusal.MalformedSheet ]

-- bytes as one number, the most significant first; n is that of the bytes before
unfoldable pub value_after : ℕ → List ℕ → ℕ
value_after n [] = n
value_after n (b ∷ bs) = value_after (n * 256 + b) bs

abbrev pub value : List ℕ → ℕ
value = value_after 0

-- a number of so many bytes
unfoldable pub number : ℕ → Reader ℕ
unfolding several value_after ◌>>=◌
number k bs = several k bs >>= λ (r : List ℕ × List ℕ). Ok (value r.0, r.1)

-- ---- the opening
pub record Opening : Type 0 where
  pub names : ℕ
  pub nodes : ℕ
  pub root : ℕ

-- name count, node count and root, 16 bits each
unfoldable pub opening : Reader Opening
unfolding several value_after ◌>>=◌
opening bs =
    several 6 bs >>= λ (r : List ℕ × List ℕ). Ok
    (record { names = value (take 2 r.0); nodes = value (take 2 (drop 2 r.0)); root = value (take 2 (drop 4 r.0)) }, r.1)

-- ---- the names
-- the last of the names read so far; before the first the empty text, which comes before every name
unfoldable pub last : List Name → Name
last [] = []
last (n ∷ []) = n
last (m ∷ n ∷ ns) = last (n ∷ ns)

-- the name after `previous`: its length byte is checked before the name is read, and the name after
unfoldable pub name : Name → Reader Name
unfolding number several may_follow ◌>>=◌
name previous bs = number 1 bs >>= λ (b : ℕ × List ℕ). elim (leb 1 b.0 && leb b.0 64) [
  | false ↦ Err refusal.BadTable
  | true ↦ several b.0 b.1 >>= λ (n : Name × List ℕ). elim (may_follow previous b.0 n.0) [ false ↦ Err refusal.BadTable | true ↦ Ok n ]
]

-- so many names more, after those read so far
unfoldable pub names : ℕ → List Name → Reader (List Name)
unfolding name last ◌>>=◌
names zero ns bs = Ok (ns, bs)
names (suc k) ns bs = name (last ns) bs >>= λ (n : Name × List ℕ). names k (ns ++ (n.0 ∷ [])) n.1

-- ---- the nodes
-- so many words of 32 bits, from bytes that have them
unfoldable pub words : ℕ → List ℕ → List ℕ
unfolding value_after
words zero bs = []
words (suc k) bs = value (take 4 bs) ∷ words k (drop 4 bs)

-- how many words a node with this head has; a head's own faults are 3
unfoldable pub node_length : ℕ → Out ℕ
unfolding head_fits head_count
node_length h = elim (head_fits h) [ false ↦ Err refusal.MalformedNode | true ↦ Ok (suc (head_count h)) ]

-- the same of the next node, whose head is read before its body
unfoldable pub measured : List ℕ → Out ℕ
unfolding number node_length ◌>>=◌
measured bs = number 4 bs >>= λ (h : ℕ × List ℕ). node_length h.0

-- the words of the next node, from its head on
unfoldable pub node_words : Reader (List ℕ)
unfolding measured several words ◌>>=◌
node_words bs = measured bs >>= λ (n : ℕ). several (4 * n) bs >>= λ (r : List ℕ × List ℕ). Ok (words n r.0, r.1)

-- with so many words and starts for the nodes, under a table of so many names
module _ (lent_words lent_starts : ℕ) where
  -- a node put behind the others: 10 for a repeated node, then 7
  unfoldable pub placed : Arena → Node → Out Arena
  unfolding find has_room
  placed a x =
      elim (find x a)
      [ some n ↦ Err refusal.MalformedSheet | none ↦ elim (has_room lent_words lent_starts (x ∷ a)) [ false ↦ Err refusal.NoRoom | true ↦ Ok (x ∷ a) ] ]

module _ (l : Layout) (lent_words lent_starts table : ℕ) where
  -- the node with these words put behind the others; before that its faults 3, 4, 5 over the whole node
  unfoldable pub added : List ℕ → Arena → Out Arena
  unfolding decode_in placed ◌>>=◌
  added ws a = decode_in l table (length a) ws >>= placed lent_words lent_starts a

  -- the arena with the next node
  unfoldable pub node : Arena → Reader Arena
  unfolding node_words added ◌>>=◌
  node a bs = node_words bs >>= λ (r : List ℕ × List ℕ). added r.0 a >>= λ (b : Arena). Ok (b, r.1)

  -- so many nodes more
  unfoldable pub nodes : ℕ → Arena → Reader Arena
  unfolding node ◌>>=◌
  nodes zero a bs = Ok (a, bs)
  nodes (suc k) a bs = node a bs >>= λ (r : Arena × List ℕ). nodes k r.0 r.1

-- ---- the sheet
pub record Sheet : Type 0 where
  pub names : List Name
  pub arena : Arena
  pub root : ℕ

-- what follows the table with these names: the nodes, in an arena of full size
unfoldable pub after_names : Layout → Opening → List Name × List ℕ → Out (Sheet × List ℕ)
unfolding nodes ◌>>=◌
after_names l o t =
    nodes l 16384 4096 o.names o.nodes [] t.1
    >>= λ (a : Arena × List ℕ). Ok (record { names = t.0; arena = a.0; root = o.root }, a.1)

-- what follows the opening; a name count over the most is 1
unfoldable pub contents : Layout → Opening → Reader Sheet
unfolding names after_names ◌>>=◌
contents l o bs = elim (leb o.names (most_names l)) [ false ↦ Err refusal.BadTable | true ↦ names o.names [] bs >>= after_names l o ]

-- after the last node: bytes left over, of a sheet with so many bytes, are 10; then a root that is no node is 6
unfoldable pub ended : ℕ → Sheet × List ℕ → Out Sheet
ended size r = elim (eqb (length r.1) 0 && leb size 65536) [
  | false ↦ Err refusal.MalformedSheet
  | true ↦ elim (ltb r.0.root (length r.0.arena)) [ false ↦ Err refusal.NoSuchRoot | true ↦ Ok r.0 ]
]

-- the bytes past 65,536 are never read
unfoldable pub read_sheet_in : Layout → List ℕ → Out Sheet
unfolding opening contents ended ◌>>=◌
read_sheet_in l input = opening (take 65536 input) >>= λ (o : Opening × List ℕ). contents l o.0 o.1 >>= ended (length input)

abbrev pub read_sheet : List ℕ → Out Sheet
read_sheet = read_sheet_in layout.New
