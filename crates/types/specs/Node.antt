-- A node is its tag and its children's numbers; its words say both (01, "Words of the arena"). Field words have two layouts (02, A2), which
-- what reads or makes them takes; under the short names it is today's.
use Rattle.std.specs.Prelude.{ℕ, ◌+◌, ◌-◌, ◌^◌, ◌≡◌, Bool, true, false, ◌&&◌, List, [], ◌∷◌, ◌++◌, map, length, get_or, take, eqb, ltb, Ok, Err}
use Rattle.std.proofs.Math.Bool.{Bool-discrete}
use Rattle.std.proofs.Math.Option.{Option, none, some}
use Rattle.std.proofs.Math.Decide.{ℕ_discrete}
use Rattle.words.specs.Words.{bit, head_word, head_kind, head_open, head_dynamic, name_bits, field_word_in, field_word, old_field_word}
use Rattle.words.specs.Words.{field_optional, field_name_in, field_name, old_field_name, child}
use Rattle.words.specs.declared.Layout.{Layout}
use Rattle.words.specs.declared.Layout.TheVariants as layout
use Rattle.types.specs.Same.{list_dec, numbers_dec, same_numbers}
use Rattle.types.specs.Kind as kinds
use Rattle.types.specs.Kind.{Kind, disc, kind_of, body_count, Body, body_of}
use Rattle.types.specs.declared.refusal.Refusal.TheVariants as refusal
use Rattle.types.specs.Out.{Out}

-- the two sides: signs of places, and kinds of member list. A union is the list of the positive side, an intersection that of the negative
pub data Polarity : Type 0 where
  positive : Polarity
  negative : Polarity
  deriving Discrete as Polarity-dec

-- a field of a set besides its child: is it optional, and the number of its name
pub data Field : Type 0 where
  field : Bool → ℕ → Field
  deriving Discrete as Field-dec

-- what a node carries besides its children, where that decides its set under a reading:
-- a primitive's code; a set's fields, whether it has a dynamic part, whether it is open; a name
pub data Form : Type 0 where
  primitive : ℕ → Form
  list : Form
  lambda : Form
  attrset : List Field → Bool → Bool → Form
  named : ℕ → Form
  deriving Discrete as Form-dec

-- a member list of either kind; the bound of either kind (`never`, the union of no members, and `any`, the intersection of none);
-- a variable; `Neg`; or another form
pub data Tag : Type 0 where
  members : Polarity → Tag
  bound : Polarity → Tag
  var : ℕ → Tag
  neg : Tag
  form : Form → Tag
  deriving Discrete as Tag-dec

-- a node: its tag and its children's numbers, in their order
pub data Node : Type 0 where
  node : Tag → List ℕ → Node
  deriving Discrete as Node-dec

-- two nodes are equal, or they are not
unfoldable pub form_dec : Discrete Form
unfolding list_dec ℕ_discrete
form_dec = Form-dec ℕ_discrete (list_dec (Field-dec Bool-discrete ℕ_discrete)) Bool-discrete

unfoldable pub node_dec : Discrete Node
unfolding numbers_dec ℕ_discrete form_dec
node_dec = Node-dec (Tag-dec Polarity-dec ℕ_discrete form_dec) numbers_dec

abbrev pub tag : Node → Tag
tag (node t cs) = t

abbrev pub children : Node → List ℕ
children (node t cs) = cs

-- ---- the words of a node
-- the kind that its head has (01, "Words of the arena")
abbrev pub kind : Tag → Kind
kind (members positive) = kinds.union
kind (members negative) = kinds.intersection
kind (bound positive) = kinds.bottom
kind (bound negative) = kinds.top
kind (var v) = kinds.ty_var
kind neg = kinds.neg
kind (form (primitive c)) = kinds.primitive
kind (form list) = kinds.list
kind (form lambda) = kinds.lambda
kind (form (attrset fs d o)) = kinds.attr_set
kind (form (named n)) = kinds.named

-- what the words of a node say besides its kind and its children: a number of its own and the limit below which it stays;
-- the fields that stand with its first children; a set's flags
pub record Data : Type 0 where
  pub numbers : List ℕ
  pub limit : ℕ
  pub fields : List Field
  pub dynamic : Bool
  pub opened : Bool

-- nothing of all that
abbrev pub nothing : Data
nothing = record { numbers = []; limit = 0; fields = []; dynamic = false; opened = false }

-- variables fill a word, codes go to 7; sets and `Named` have names
abbrev pub data_of : Tag → Data
data_of (members k) = nothing
data_of (bound k) = nothing
data_of (var v) = record { numbers = v ∷ []; limit = 2 ^ 32; fields = []; dynamic = false; opened = false }
data_of neg = nothing
data_of (form (primitive c)) = record { numbers = c ∷ []; limit = 8; fields = []; dynamic = false; opened = false }
data_of (form list) = nothing
data_of (form lambda) = nothing
data_of (form (attrset fs d o)) = record { numbers = []; limit = 0; fields = fs; dynamic = d; opened = o }
data_of (form (named n)) = record { numbers = []; limit = 0; fields = field false n ∷ []; dynamic = false; opened = false }

-- the numbers of the names that a node carries
abbrev pub field_names : List Field → List ℕ
field_names [] = []
field_names (field o n ∷ fs) = n ∷ field_names fs

-- those of a tag
abbrev pub names : Tag → List ℕ
names t = field_names (data_of t).fields

-- a field word for each child that stands with a field, and a child word for each of the others
unfoldable pub child_words_in : Layout → List Field → List ℕ → List ℕ
unfolding field_word old_field_word
child_words_in l [] cs = cs
child_words_in l (f ∷ fs) [] = []
child_words_in l (field o n ∷ fs) (c ∷ cs) = field_word_in l o n c ∷ child_words_in l fs cs

abbrev pub child_words : List Field → List ℕ → List ℕ
child_words = child_words_in layout.New

-- the words behind the head: a number of the node's own, or its children
abbrev pub body_in : Layout → Node → List ℕ
body_in l (node t cs) = (data_of t).numbers ++ child_words_in l (data_of t).fields cs

abbrev pub body : Node → List ℕ
body = body_in layout.New

-- the head word, which counts the body's: as many in either layout
unfoldable pub head_of : Node → ℕ
head_of x = head_word (disc (kind (tag x))) (data_of (tag x)).opened (data_of (tag x)).dynamic (length (body x))

-- the words of a node
unfoldable pub encode_in : Layout → Node → List ℕ
encode_in l x = head_of x ∷ body_in l x

abbrev pub encode : Node → List ℕ
encode = encode_in layout.New

-- ---- what makes a node well formed
-- is each number below n?
unfoldable pub below : ℕ → List ℕ → Bool
below n [] = true
below n (c ∷ cs) = ltb c n && below n cs

-- a set has a child for each field, and one more if it has a dynamic part
abbrev pub matched : Tag → ℕ → Bool
matched (members k) n = true
matched (bound k) n = true
matched (var v) n = true
matched neg n = true
matched (form (primitive c)) n = true
matched (form list) n = true
matched (form lambda) n = true
matched (form (attrset fs d o)) n = eqb n (length fs + bit d)
matched (form (named m)) n = true

-- what number 3 asks: the count of body words fits the kind, and each number fits its field of the words
unfoldable pub formed_in : Layout → Node → Bool
unfolding below body_count child_words_in
formed_in l (node t cs) =
    body_count (kind t) (data_of t).dynamic (length (body (node t cs)))
    && (matched t (length cs)
    && (below (data_of t).limit (data_of t).numbers && (below (2 ^ name_bits l) (names t) && below (2 ^ 12) cs)))

abbrev pub formed : Node → Bool
formed = formed_in layout.New

-- what number 4 asks: children of lower number than the node's own, names of the table
unfoldable pub linked : ℕ → ℕ → Node → Bool
unfolding below
linked table nodes (node t cs) = below nodes cs && below table (names t)

-- what number 5 asks: each name's number is above the one before
unfoldable pub rising : List ℕ → Bool
rising [] = true
rising (m ∷ []) = true
rising (m ∷ n ∷ ns) = ltb m n && rising (n ∷ ns)

-- a node that may stand after so many nodes, under a table of so many names
unfoldable pub well_in : Layout → ℕ → ℕ → Node → Bool
unfolding formed_in linked rising
well_in l table nodes x = formed_in l x && (linked table nodes x && rising (names (tag x)))

abbrev pub well : ℕ → ℕ → Node → Bool
well = well_in layout.New

-- ---- from words to the node
-- what a field word says besides its child
abbrev pub field_of_in : Layout → ℕ → Field
field_of_in l w = field (field_optional w) (field_name_in l w)

abbrev pub field_of : ℕ → Field
field_of = field_of_in layout.New

-- the only tag that a head of this kind, open and dynamic or not, can have over this body
unfoldable pub tag_of_in : Layout → Kind → Bool → Bool → List ℕ → Tag
unfolding field_optional field_name old_field_name
tag_of_in l kinds.bottom o d b = bound positive
tag_of_in l kinds.top o d b = bound negative
tag_of_in l kinds.primitive o d b = form (primitive (get_or b 0 0))
tag_of_in l kinds.ty_var o d b = var (get_or b 0 0)
tag_of_in l kinds.list o d b = form list
tag_of_in l kinds.lambda o d b = form lambda
tag_of_in l kinds.attr_set o d b = form (attrset (map (field_of_in l) (take (length b - bit d) b)) d o)
tag_of_in l kinds.union o d b = members positive
tag_of_in l kinds.intersection o d b = members negative
tag_of_in l kinds.named o d b = form (named (field_name_in l (get_or b 0 0)))
tag_of_in l kinds.neg o d b = neg

abbrev pub tag_of : Kind → Bool → Bool → List ℕ → Tag
tag_of = tag_of_in layout.New

-- the children in a body: kinds 4 to 10 have one in each word
unfoldable pub children_of : Body → List ℕ → List ℕ
unfolding child
children_of kinds.empty b = []
children_of kinds.code b = []
children_of kinds.number b = []
children_of kinds.children b = map child b
children_of kinds.fields b = map child b
children_of kinds.name b = map child b

-- the only node that a head of this kind can have over this body; a head of no kind has none, and `never` has other words
abbrev pub guess_kind_in : Layout → Option Kind → Bool → Bool → List ℕ → Node
guess_kind_in l none o d b = node (bound positive) []
guess_kind_in l (some k) o d b = node (tag_of_in l k o d b) (children_of (body_of k) b)

-- the only node that can have these words
unfoldable pub guess_in : Layout → List ℕ → Node
unfolding head_kind head_open head_dynamic kind_of tag_of_in children_of
guess_in l [] = node (bound positive) []
guess_in l (h ∷ b) = guess_kind_in l (kind_of (head_kind h)) (head_open h) (head_dynamic h) b

abbrev pub guess : List ℕ → Node
guess = guess_in layout.New

-- are these the words of this node, and is it formed?
unfoldable pub is_words_in : Layout → List ℕ → Node → Bool
unfolding formed_in encode_in same_numbers
is_words_in l ws x = formed_in l x && same_numbers ws (encode_in l x)

abbrev pub is_words : List ℕ → Node → Bool
is_words = is_words_in layout.New

-- the node that has these words, or the first of 3, 4 and 5 that is true of them, over the whole node
unfoldable pub decode_in : Layout → ℕ → ℕ → List ℕ → Out Node
unfolding guess_in is_words_in linked rising
decode_in l table nodes ws = elim (is_words_in l ws (guess_in l ws)) [
  | false ↦ Err refusal.MalformedNode
  | true ↦ elim (linked table nodes (guess_in l ws)) [
    | false ↦ Err refusal.OutOfRange
    | true ↦ elim (rising (names (tag (guess_in l ws)))) [ false ↦ Err refusal.UnorderedFields | true ↦ Ok (guess_in l ws) ]
  ]
]

abbrev pub decode : ℕ → ℕ → List ℕ → Out Node
decode = decode_in layout.New

-- the words ws are those of the node x, which may stand after so many nodes, under a table of so many names
pub record IsNodeIn (l : Layout) (table nodes : ℕ) (ws : List ℕ) (x : Node) : Type 0 where
  pub words : ws ≡ encode_in l x
  pub good : well_in l table nodes x ≡ true

abbrev pub IsNode : ℕ → ℕ → List ℕ → Node → Type 0
IsNode = IsNodeIn layout.New
