-- How two nodes stand in order: by kind, then by contents (01, "primitive, arc_ty").
use Rattle.std.specs.Prelude.{ℕ, ◌≡◌, true, false, List, [], ◌∷◌, ◌++◌, length, drop}
use Rattle.words.specs.Words.{bit}
use Rattle.types.specs.Kind.{disc}
use Rattle.types.specs.Node.{Field, field, Node, node, tag, kind, data_of, names, formed, rising}
use Rattle.types.specs.Order.{order, lexicographic, by, then_by, reversed}
use Rattle.std.specs.declared.cmp.Ordering.{Ordering}
use Rattle.std.specs.declared.cmp.Ordering.TheVariants.{Less, Equal}

-- a field's name and its child, by number; the numbers of names stand as the names do
pub record Entry : Type 0 where
  pub name : ℕ
  pub child : ℕ

-- by name, then by child
unfoldable pub entry_order : Entry → Entry → Ordering
unfolding then_by by order
entry_order = then_by (by (λ (e : Entry). e.name) order) (by (λ (e : Entry). e.child) order)

-- what node order reads off a node; a kind without some of these has them equal in all its nodes
pub record Keys : Type 0 where
  pub kind : ℕ
  pub entries : List Entry
  pub others : List ℕ
  pub opened : ℕ
  pub optional : List ℕ

-- by kind, fields, other numbers (of a set its dynamic part, where none comes first), open (closed first), names of the optional fields
unfoldable pub keys_order : Keys → Keys → Ordering
unfolding then_by by order lexicographic entry_order
keys_order =
    then_by (by (λ (k : Keys). k.kind) order)
    (then_by (by (λ (k : Keys). k.entries) (lexicographic entry_order))
    (then_by (by (λ (k : Keys). k.others) (lexicographic order))
    (then_by (by (λ (k : Keys). k.opened) order) (by (λ (k : Keys). k.optional) (lexicographic order)))))

-- each field with its child
unfoldable pub entries : List Field → List ℕ → List Entry
entries [] cs = []
entries (f ∷ fs) [] = []
entries (field o n ∷ fs) (c ∷ cs) = record { name = n; child = c } ∷ entries fs cs

-- the names of the optional fields
unfoldable pub optional_names : List Field → List ℕ
optional_names [] = []
optional_names (field true n ∷ fs) = n ∷ optional_names fs
optional_names (field false n ∷ fs) = optional_names fs

-- the other numbers are a primitive's code, a variable's number and the children that stand with no field
unfoldable pub node_keys : Node → Keys
unfolding entries optional_names
node_keys (node t cs) = record {
  kind = disc (kind t);
  entries = entries (data_of t).fields cs;
  others = (data_of t).numbers ++ drop (length (data_of t).fields) cs;
  opened = bit (data_of t).opened;
  optional = optional_names (data_of t).fields;
}

-- node order (01, "primitive, arc_ty"; the Rust's `Ord for OutputTy` and `Ord for AttrSetTy`)
unfoldable pub node_order : Node → Node → Ordering
unfolding by keys_order node_keys
node_order = by node_keys keys_order

-- what numbers 3 and 5 ask of a node by itself: it is formed, and its names rise
pub record Settled (x : Node) : Type 0 where
  pub formed : formed x ≡ true
  pub rising : rising (names (tag x)) ≡ true

-- a total order of the nodes that may stand in an arena: it holds as one for all nodes, and two settled ones are equal where it says so
pub record OrdersNodes (f : Node → Node → Ordering) : Type 0 where
  pub refl_equal : (x : Node) → f x x ≡ Equal
  pub turned : (x y : Node) → f y x ≡ reversed (f x y)
  pub trans : (x y z : Node) → f x y ≡ Less → f y z ≡ Less → f x z ≡ Less
  pub alike : (x y z : Node) → f x y ≡ Equal → f x z ≡ f y z
  pub equal : (x y : Node) → Settled x → Settled y → f x y ≡ Equal → x ≡ y
