-- The text of a type, as the Rust's `write_ty` writes it (document 001): what begins a node's text, what stands before each child, which
-- children stand in parentheses, what ends it. How names are spelled is a parameter (02, A1): bare, it is the Rust's text.
use Rattle.std.specs.Prelude.{ℕ, zero, suc, Bool, false, List, [], ◌∷◌, ◌++◌, length, get_or}
use Rattle.types.specs.Bytes.{bytes}
use Rattle.types.specs.Tyvar.{tyvar_name}
use Rattle.primitive.specs.Primitive.{primitive_text}
use Rattle.types.specs.Parens.{parens_in_union_member, parens_in_intersection_member, parens_in_lambda_param, parens_in_neg}
use Rattle.types.specs.Kind.{disc}
use Rattle.types.specs.Node.{positive, negative, Field, field, primitive, list, lambda, attrset, named, Tag, members, bound, var, neg, form}
use Rattle.types.specs.Node.{kind}
use Rattle.types.specs.Arena.{Arena, fold}
use Rattle.names.specs.Table.{Name}
use Rattle.spelling.specs.Spelling.{spelled}
use Rattle.spelling.specs.declared.Spelling.{Spelling}
use Rattle.appending.specs.Parts.{when, between}

-- what begins the text of a node; for a node without children it is the whole text, and so for a named type, whose child isn't printed
unfoldable pub beginning : Spelling → List Name → Tag → List ℕ
unfolding tyvar_name primitive_text spelled
beginning sp ns (members k) = []
beginning sp ns (bound positive) = bytes "never"
beginning sp ns (bound negative) = bytes "any"
beginning sp ns (var v) = tyvar_name v
beginning sp ns neg = bytes "~"
beginning sp ns (form (primitive c)) = primitive_text c
beginning sp ns (form list) = bytes "["
beginning sp ns (form lambda) = []
beginning sp ns (form (attrset fs d o)) = bytes "{ "
beginning sp ns (form (named n)) = spelled sp (get_or ns n [])

-- what separates the children
unfoldable pub separator : Tag → List ℕ
separator (members positive) = bytes " | "
separator (members negative) = bytes " & "
separator (bound k) = []
separator (var v) = []
separator neg = []
separator (form (primitive c)) = []
separator (form list) = []
separator (form lambda) = bytes " -> "
separator (form (attrset fs d o)) = bytes ", "
separator (form (named n)) = []

-- a field's name, `?` if the field is optional, `:`
unfoldable pub field_text : Spelling → List Name → Bool → ℕ → List ℕ
unfolding when spelled
field_text sp ns o n = spelled sp (get_or ns n []) ++ when o (bytes "?") ++ bytes ": "

-- what names child i of a set: its field, or that it is the dynamic part, which stands behind the fields
unfoldable pub field_label : Spelling → List Name → List Field → ℕ → List ℕ
unfolding field_text
field_label sp ns [] i = bytes "_: "
field_label sp ns (field o n ∷ fs) zero = field_text sp ns o n
field_label sp ns (f ∷ fs) (suc i) = field_label sp ns fs i

-- what names child i: a set's children only are named
unfoldable pub label : Spelling → List Name → Tag → ℕ → List ℕ
unfolding field_label
label sp ns (members k) i = []
label sp ns (bound k) i = []
label sp ns (var v) i = []
label sp ns neg i = []
label sp ns (form (primitive c)) i = []
label sp ns (form list) i = []
label sp ns (form lambda) i = []
label sp ns (form (attrset fs d o)) i = field_label sp ns fs i
label sp ns (form (named n)) i = []

-- does child i stand in parentheses, if it is of this kind? (document 002)
unfoldable pub parens : Tag → ℕ → ℕ → Bool
unfolding parens_in_union_member parens_in_intersection_member parens_in_lambda_param parens_in_neg
parens (members positive) i k = parens_in_union_member k
parens (members negative) i k = parens_in_intersection_member k
parens (bound p) i k = false
parens (var v) i k = false
parens neg i k = parens_in_neg k
parens (form (primitive c)) i k = false
parens (form list) i k = false
parens (form lambda) zero k = parens_in_lambda_param k
parens (form lambda) (suc i) k = false
parens (form (attrset fs d o)) i k = false
parens (form (named n)) i k = false

-- what ends the text of a set, open or not, with so many children: `...` is separated like one more child
unfoldable pub set_ending : Bool → ℕ → List ℕ
unfolding when between
set_ending o n = when o (between (bytes ", ") n ++ bytes "...") ++ bytes " }"

-- what ends the text of a node with so many children
unfoldable pub ending : Tag → ℕ → List ℕ
unfolding set_ending
ending (members k) n = []
ending (bound k) n = []
ending (var v) n = []
ending neg n = []
ending (form (primitive c)) n = []
ending (form list) n = bytes "]"
ending (form lambda) n = []
ending (form (attrset fs d o)) n = set_ending o n
ending (form (named m)) n = []

-- the children that are printed: of a named type none
unfoldable pub shown : {A : Type 0} → Tag → List A → List A
shown (members k) cs = cs
shown (bound k) cs = cs
shown (var v) cs = cs
shown neg cs = cs
shown (form (primitive c)) cs = cs
shown (form list) cs = cs
shown (form lambda) cs = cs
shown (form (attrset fs d o)) cs = cs
shown (form (named n)) cs = []

-- a node in print: the number of its kind, by which parentheses are set, and its text
pub record Printed : Type 0 where
  pub number : ℕ
  pub text : List ℕ

-- what stands before child i, in parentheses or not
unfoldable pub before : Spelling → List Name → Tag → ℕ → Bool → List ℕ
unfolding when between separator label
before sp ns t i inside = between (separator t) i ++ label sp ns t i ++ when inside (bytes "(")

-- child i with what stands round it
unfoldable pub child_text : Spelling → List Name → Tag → ℕ → Printed → List ℕ
unfolding before when parens
child_text sp ns t i p = before sp ns t i (parens t i p.number) ++ p.text ++ when (parens t i p.number) (bytes ")")

-- child i and those after it
unfoldable pub child_texts : Spelling → List Name → Tag → ℕ → List Printed → List ℕ
unfolding child_text
child_texts sp ns t i [] = []
child_texts sp ns t i (p ∷ ps) = child_text sp ns t i p ++ child_texts sp ns t (suc i) ps

-- a node from its children in print
unfoldable pub node_text : Spelling → List Name → Tag → List Printed → Printed
unfolding beginning child_texts shown ending
node_text sp ns t ps = record {
  number = disc (kind t);
  text = beginning sp ns t ++ child_texts sp ns t 0 (shown t ps) ++ ending t (length ps);
}

-- the text of the type of a node, under a table with these names
unfoldable pub type_text : Spelling → List Name → Arena → ℕ → List ℕ
unfolding fold node_text
type_text sp ns a n = (fold (node_text sp ns) a n).text
