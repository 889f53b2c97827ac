-- Imports into small targets, and what each gives (02, A4).
use Rattle.std.specs.Prelude.{ℕ, true, false, List, [], ◌∷◌, ◌++◌, map, reverse, Ok, Err}
use Prim.Native.String.{String}
use Rattle.types.specs.declared.refusal.Refusal.TheVariants as refusal
use Rattle.types.specs.declared.refusal.Refusal.{Refusal}
use Rattle.types.specs.Bytes.{bytes}
use Rattle.types.specs.Out.{Out}
use Rattle.types.specs.Node.{positive, negative, field, primitive, list, lambda, attrset, named, members, var, neg, form, Node, node}
use Rattle.types.specs.Arena.{Arena}
use Rattle.importing.specs.Import.{number_in, import_from_arena}

-- what the definition gives, and what it should give
pub record Case : Type 0 where
  pub gives : Out (ℕ × Arena)
  pub says : Out (ℕ × Arena)

-- a source whose table has the names b and d, its arena's nodes from node 0 on, and the root; a target's table and nodes, in so many words
-- and starts
pub record Import : Type 0 where
  pub names : List String
  pub words : ℕ
  pub starts : ℕ
  pub source : List Node
  pub root : ℕ
  pub target : List Node

abbrev run : Import → Out (ℕ × Arena)
run i =
    import_from_arena (number_in (map bytes ("b" ∷ "d" ∷ [])) (map bytes i.names)) i.words i.starts (reverse i.source)
    i.root (reverse i.target)

-- the number that the root has in the target, and the nodes that were added behind those of the target
abbrev becomes : Import → ℕ → List Node → Case
becomes i m xs = record { gives = run i; says = Ok (m, reverse (i.target ++ xs)) }

abbrev refused : Import → Refusal → Case
refused i e = record { gives = run i; says = Err e }

-- ---- nodes
abbrev int : Node
int = node (form (primitive 2)) []

abbrev variable : ℕ → Node
variable v = node (var v) []

abbrev name : ℕ → ℕ → Node
name k c = node (form (named k)) (c ∷ [])

-- a closed set of two fields
abbrev set : ℕ → ℕ → ℕ → ℕ → Node
set j c k d = node (form (attrset (field false j ∷ field false k ∷ []) false false)) (c ∷ d ∷ [])

-- an open set of one field that is optional, with a dynamic part
abbrev marked : ℕ → ℕ → ℕ → Node
marked k c d = node (form (attrset (field true k ∷ []) true true)) (c ∷ d ∷ [])

-- ---- memory
abbrev within : List String → ℕ → ℕ → List Node → ℕ → List Node → Import
within ms words starts xs n ys = record { names = ms; words = words; starts = starts; source = xs; root = n; target = ys }

-- four names in the target, and room for all
abbrev shifted : List Node → ℕ → List Node → Import
shifted = within ("a" ∷ "b" ∷ "c" ∷ "d" ∷ []) 64 16

abbrev pub worked : List Case
worked =
    -- names get the numbers of their texts
    becomes (shifted (int ∷ set 0 0 1 0 ∷ []) 1 []) 1 (int ∷ set 1 0 3 0 ∷ [])
    ∷ becomes (shifted (int ∷ name 1 0 ∷ []) 1 []) 1 (int ∷ name 3 0 ∷ [])
    -- optional, open and dynamic stay
    ∷ becomes (shifted (int ∷ variable 7 ∷ marked 1 0 1 ∷ []) 2 []) 2 (int ∷ variable 7 ∷ marked 3 0 1 ∷ [])
    -- the target's own nodes stay before the new ones, and a part that is there keeps its number
    ∷ becomes (shifted (int ∷ variable 0 ∷ set 0 0 1 1 ∷ []) 2 (variable 5 ∷ variable 0 ∷ [])) 3 (int ∷ set 1 2 3 1 ∷ [])
    -- a child with two places is imported once
    ∷ becomes (shifted (int ∷ name 0 0 ∷ node (form lambda) (1 ∷ 1 ∷ []) ∷ []) 2 []) 2
    (int ∷ name 1 0 ∷ node (form lambda) (1 ∷ 1 ∷ []) ∷ [])
    -- variables stay, and so does the order of members, of a union and of an intersection
    ∷ becomes (shifted (int ∷ variable 1 ∷ variable 3 ∷ node (members positive) (2 ∷ 0 ∷ 1 ∷ []) ∷ []) 3 []) 3
    (variable 3 ∷ int ∷ variable 1 ∷ node (members positive) (0 ∷ 1 ∷ 2 ∷ []) ∷ [])
    ∷ becomes (shifted (int ∷ variable 1 ∷ node neg (1 ∷ []) ∷ node (members negative) (2 ∷ 0 ∷ []) ∷ []) 3 []) 3
    (variable 1 ∷ node neg (0 ∷ []) ∷ int ∷ node (members negative) (1 ∷ 2 ∷ []) ∷ [])
    -- nodes that aren't reachable from the root are left out
    ∷ becomes (shifted (int ∷ name 0 0 ∷ node (form list) (0 ∷ []) ∷ []) 2 []) 1 (int ∷ node (form list) (0 ∷ []) ∷ [])
    -- what is there is found, also in a full target; else there is room for all of it, or 7
    ∷ becomes (within ("a" ∷ "b" ∷ []) 4 2 (int ∷ name 0 0 ∷ []) 1 (int ∷ name 1 0 ∷ [])) 1 []
    ∷ becomes (within ("b" ∷ []) 4 2 (int ∷ name 0 0 ∷ []) 1 []) 1 (int ∷ name 0 0 ∷ [])
    ∷ refused (within ("b" ∷ []) 3 2 (int ∷ name 0 0 ∷ []) 1 []) refusal.NoRoom
    ∷ refused (within ("b" ∷ []) 4 1 (int ∷ name 0 0 ∷ []) 1 []) refusal.NoRoom
    -- a name of the root, and one further down, that the target's table lacks; the same number is no help
    ∷ refused (within ("a" ∷ "b" ∷ []) 64 16 (int ∷ name 1 0 ∷ []) 1 []) refusal.NameAbsent
    ∷ refused (within ("a" ∷ "d" ∷ []) 64 16 (int ∷ name 0 0 ∷ node (form list) (1 ∷ []) ∷ name 1 2 ∷ []) 3 []) refusal.NameAbsent
    -- one that is lacking at a node that isn't reachable; and 12 comes before 7
    ∷ becomes (within ("a" ∷ "b" ∷ []) 64 16 (int ∷ name 1 0 ∷ name 0 0 ∷ []) 2 []) 1 (int ∷ name 1 0 ∷ [])
    ∷ refused (within [] 0 0 (int ∷ name 0 0 ∷ []) 1 []) refusal.NameAbsent
    ∷ []
