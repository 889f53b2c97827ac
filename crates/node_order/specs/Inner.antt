-- What the functions that compare parts of two nodes answer.
use Rattle.std.specs.Prelude.{ℕ, ◌<◌, ◌≤◌, ◌≡◌, true, List, length, get_or, drop}
use Rattle.words.specs.Words.{head_kind, head_dynamic, field_optional, field_name, child}
use Rattle.types.specs.Order.{order, lexicographic, by}
use Rattle.std.specs.declared.cmp.Ordering.{Ordering}
use Rattle.node_order.specs.NodeOrder.{entry_order}
use Rattle.node_order.specs.WordsOrder.{entry_of, optional_in, field_count}

-- field words by name, then by child
unfoldable pub field_order : ℕ → ℕ → Ordering
unfolding by entry_order field_name child
field_order = by entry_of entry_order

-- lists of field words by their optional names
unfoldable pub optional_order : List ℕ → List ℕ → Ordering
unfolding by lexicographic order optional_in
optional_order = by optional_in (lexicographic order)

-- r is how many of n body words are field words under this head
pub record FieldCount (h n r : ℕ) : Type 0 where
  pub value : r ≡ field_count (head_kind h) (head_dynamic h) n
  pub within : r ≤ n

-- r is the first place, from this one on, of an optional field, or past all fields
pub record NextOptional (fields : List ℕ) (from r : ℕ) : Type 0 where
  pub low : from ≤ r
  pub passed : optional_in (drop from fields) ≡ optional_in (drop r fields)
  pub there : r < length fields → field_optional (get_or fields r 0) ≡ true
