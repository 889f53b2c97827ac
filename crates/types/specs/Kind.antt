-- The eleven kinds of node and their numbers.
use Rattle.std.specs.Prelude.{ℕ, ◌+◌, Bool, ◌&&◌, List, [], ◌∷◌, eqb, leb}
use Rattle.std.proofs.Math.Option.{Option}
use Rattle.std.proofs.Math.ListN.{get_elem?}
use Rattle.words.specs.Words.{bit}

-- one for each variant of the Rust's `OutputTy` but `Extern`
pub data Kind : Type 0 where
  bottom : Kind
  top : Kind
  primitive : Kind
  ty_var : Kind
  list : Kind
  lambda : Kind
  attr_set : Kind
  union : Kind
  intersection : Kind
  named : Kind
  neg : Kind

-- the number of a kind, which the head word carries (01, "Words of the arena"; the Rust's `disc`)
abbrev pub disc : Kind → ℕ
disc bottom = 0
disc top = 1
disc primitive = 2
disc ty_var = 3
disc list = 4
disc lambda = 5
disc attr_set = 6
disc union = 7
disc intersection = 8
disc named = 9
disc neg = 10

-- in the order of their numbers
abbrev pub kinds : List Kind
kinds = bottom ∷ top ∷ primitive ∷ ty_var ∷ list ∷ lambda ∷ attr_set ∷ union ∷ intersection ∷ named ∷ neg ∷ []

-- the kind with this number, none above 10
unfoldable pub kind_of : ℕ → Option Kind
kind_of n = get_elem? kinds n

-- may a node of this kind, a set with or without a dynamic part, have so many body words? (01, "Words of the arena")
unfoldable pub body_count : Kind → Bool → ℕ → Bool
body_count bottom d n = eqb n 0
body_count top d n = eqb n 0
body_count primitive d n = eqb n 1
body_count ty_var d n = eqb n 1
body_count list d n = eqb n 1
body_count lambda d n = eqb n 2
body_count attr_set d n = leb (bit d) n && leb n (64 + bit d)
body_count union d n = leb 1 n && leb n 64
body_count intersection d n = leb 1 n && leb n 64
body_count named d n = eqb n 1
body_count neg d n = eqb n 1

-- what the body words of a kind are: none; a primitive's code; a variable's number; children; fields and perhaps one child; one field that
-- is a name
pub data Body : Type 0 where
  empty : Body
  code : Body
  number : Body
  children : Body
  fields : Body
  name : Body

-- (01, "Words of the arena")
abbrev pub body_of : Kind → Body
body_of bottom = empty
body_of top = empty
body_of primitive = code
body_of ty_var = number
body_of list = children
body_of lambda = children
body_of attr_set = fields
body_of union = children
body_of intersection = children
body_of named = name
body_of neg = children
