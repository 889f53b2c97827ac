-- Whether a primitive, a list or a set takes a value, by the words of both.
use Rattle.std.specs.Prelude.{ℕ, ◌*◌, ◌<◌, ◌≤◌, ◌≡◌, Bool, true, false, ◌||◌, List, map, length, get_or, eqb}
use Rattle.words.specs.Words.{head_kind, field_name, child}
use Rattle.types.specs.Kind as kinds
use Rattle.types.specs.Kind.{disc}
use Rattle.types.specs.Node.{Node, tag, children, encode, well}
use Rattle.fix_values.specs.Values as values
use Rattle.fix_values.specs.Values.{Value, value, is_value, guess}
use Rattle.fix_values.specs.Fix.{Fix, value_at}
use Rattle.fix_values.specs.Inner.{FixIn}
use Rattle.bits.specs.Bits.{has, Put}
use Rattle.fitting.specs.Fits.{node_takes}
use Rattle.fitting.specs.Inner.Rows.{pair, HasRow, HasPair}
use Rattle.fitting.specs.Inner.Sets.{Risen}

-- the words are those of a node that may stand in an arena, and there is a row for each of its children
pub record NodeIn (ws ps : List ℕ) (width : ℕ) : Type 0 where
  pub table : ℕ
  pub nodes : ℕ
  pub node : Node
  pub good : well table nodes node ≡ true
  pub words : ws ≡ encode node
  pub rows : (i : ℕ) → i < length (children node) → HasRow ps width (get_or (children node) i 0)

-- the words are those of a value that may stand in a fix, and rows have a bit for each of its children
pub record ValueIn (us : List ℕ) (width : ℕ) : Type 0 where
  pub table : ℕ
  pub values_before : ℕ
  pub good : is_value table values_before us ≡ true
  pub fits : values_before ≤ width * 64

-- each child in the words has a bit in the row of node n
pub record ListIn (ps : List ℕ) (width n : ℕ) (us : List ℕ) : Type 0 where
  pub each : (i : ℕ) → i < length us → HasPair ps width n (child (get_or us i 0))

-- a set type, and the field words of a set, of which each child has a bit in a row
pub record SetsIn (ws ps : List ℕ) (width : ℕ) (vs : List ℕ) : Type 0 where
  pub node : NodeIn ws ps width
  pub set : head_kind (get_or ws 0 0) ≡ disc kinds.attr_set
  pub rises : Risen vs
  pub fits : (j : ℕ) → j < length vs → child (get_or vs j 0) < width * 64

-- r says whether the node takes the value u, whose number in a fix is v
pub record TakesValue (ws : List ℕ) (u : Value) (ps : List ℕ) (width : ℕ) (r : Bool) : Type 0 where
  pub is : (table nodes : ℕ) (x : Node) → well table nodes x ≡ true → ws ≡ encode x
      → (f : Fix) (v : ℕ) → value_at f v ≡ u → r ≡ node_takes f (tag x) (map (pair ps width) (children x)) v

-- the value that has these words; the set that has these field words
abbrev pub Takes : List ℕ → List ℕ → List ℕ → ℕ → Bool → Type 0
Takes ws us = TakesValue ws (guess us)

abbrev pub SetTakes : List ℕ → List ℕ → List ℕ → ℕ → Bool → Type 0
SetTakes ws vs = TakesValue ws (value (values.set (map field_name vs)) (map child vs))

-- the kind of a node that a value is held against: a primitive, a list or a set
pub record Holding (ws : List ℕ) (kind : ℕ) : Type 0 where
  pub is : kind ≡ head_kind (get_or ws 0 0)
  pub one_of : (eqb kind (disc kinds.primitive) || (eqb kind (disc kinds.list) || eqb kind (disc kinds.attr_set))) ≡ true

-- a node, and a fix of which each value has a bit in a row
pub record Against (ws ps : List ℕ) (width : ℕ) (fix places : List ℕ) (count : ℕ) : Type 0 where
  pub node : NodeIn ws ps width
  pub table : ℕ
  pub view : Fix
  pub holds : FixIn table fix places count view
  pub wide : count ≤ width * 64
  pub narrow : width ≤ 16

-- the row t is the row s, with value v in it if b says so
pub record Marks (b : Bool) (v : ℕ) (s t : List ℕ) : Type 0 where
  pub long : length t ≡ length s
  pub put : b ≡ true → Put s v t
  pub kept : b ≡ false → t ≡ s

-- r is the row of the node: which values it takes
pub record RowOf (ws ps : List ℕ) (width : ℕ) (fix places : List ℕ) (count : ℕ) (r : List ℕ) : Type 0 where
  pub long : length r ≡ 16
  pub is : (table nodes : ℕ) (x : Node) → well table nodes x ≡ true → ws ≡ encode x
      → (t : ℕ) (f : Fix) → FixIn t fix places count f
      → (v : ℕ) → v < count → has r v ≡ node_takes f (tag x) (map (pair ps width) (children x)) v
