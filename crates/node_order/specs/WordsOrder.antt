-- Node order as a program reads it off words, whatever they are. That on the words of formed nodes it is `node_order` is the theorem
-- `words_order_encode`.
use Rattle.std.specs.Prelude.{ℕ, ◌-◌, Bool, true, false, List, map, length, get_or, take, drop, eqb}
use Rattle.words.specs.Words.{bit, head_kind, head_open, head_dynamic, field_optional, field_name, child}
use Rattle.types.specs.Kind.{disc, attr_set, named}
use Rattle.types.specs.Node.{field_of}
use Rattle.types.specs.Order.{by}
use Rattle.std.specs.declared.cmp.Ordering.{Ordering}
use Rattle.node_order.specs.NodeOrder.{Entry, Keys, keys_order, optional_names}

-- what a field word says besides whether the field is optional
abbrev pub entry_of : ℕ → Entry
entry_of w = record { name = field_name w; child = child w }

-- the names of the optional ones among field words
unfoldable pub optional_in : List ℕ → List ℕ
unfolding optional_names field_optional field_name
optional_in ws = optional_names (map field_of ws)

-- how many of so many body words are field words in a node of this kind: in a set all but the dynamic part, in a `Named` all
unfoldable pub field_count : ℕ → Bool → ℕ → ℕ
field_count k d n = elim (eqb k (disc named)) [ true ↦ n | false ↦ elim (eqb k (disc attr_set)) [ true ↦ n - bit d | false ↦ 0 ] ]

-- the keys in a head, its field words and its other words
unfoldable pub part_keys : ℕ → List ℕ → List ℕ → Keys
unfolding head_kind head_open optional_in field_name child
part_keys h fs ws = record {
  kind = head_kind h;
  entries = map entry_of fs;
  others = ws;
  opened = bit (head_open h);
  optional = optional_in fs;
}

-- the keys in a head and a body
unfoldable pub body_keys : ℕ → List ℕ → Keys
unfolding head_kind head_dynamic field_count part_keys
body_keys h b =
    let n = field_count (head_kind h) (head_dynamic h) (length b) in
    part_keys h (take n b) (drop n b)

-- the keys in the words of a node, where no words count as a head 0
unfoldable pub word_keys : List ℕ → Keys
unfolding body_keys
word_keys ws = body_keys (get_or ws 0 0) (drop 1 ws)

-- the words of two nodes by their keys
unfoldable pub words_order : List ℕ → List ℕ → Ordering
unfolding by keys_order word_keys
words_order = by word_keys keys_order
