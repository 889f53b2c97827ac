-- The fields of a word of the arena, counted from the most significant bit (01, "Words of the arena"; a field word: 02, A2).
use Rattle.std.specs.Prelude.{ℕ, ◌+◌, ◌-◌, ◌*◌, ◌/◌, ◌%◌, ◌^◌, ◌≤◌, ◌<◌, ◌≡◌, Bool, true, false, eqb}
use Rattle.words.specs.declared.Layout.{Layout}
use Rattle.words.specs.declared.Layout.TheVariants as layout

-- a flag as a field of one bit
abbrev pub bit : Bool → ℕ
bit true = 1
bit false = 0

-- r is that field
pub record IsBit (b : Bool) (r : ℕ) : Type 0 where
  pub value : r ≡ bit b
  pub small : r ≤ 1

-- what fits into a head's fields
pub record HeadFits (kind count : ℕ) : Type 0 where
  pub few_kinds : kind < 2 ^ 4
  pub few_words : count < 2 ^ 16

-- the head of a node: kind 4 bits, open 1, dynamic 1, zero 10, count of body words 16
unfoldable pub head_word : ℕ → Bool → Bool → ℕ → ℕ
head_word kind op dyn count = kind * 2 ^ 28 + bit op * 2 ^ 27 + bit dyn * 2 ^ 26 + count

-- a head's fields, each read off any word
unfoldable pub head_kind : ℕ → ℕ
head_kind w = w / 2 ^ 28

unfoldable pub head_open : ℕ → Bool
head_open w = eqb (w / 2 ^ 27 % 2) 1

unfoldable pub head_dynamic : ℕ → Bool
head_dynamic w = eqb (w / 2 ^ 26 % 2) 1

unfoldable pub head_zero : ℕ → ℕ
head_zero w = w / 2 ^ 16 % 2 ^ 10

unfoldable pub head_count : ℕ → ℕ
head_count w = w % 2 ^ 16

-- the word of a field whose name has so many bits: optional 1 bit, the name, zeros, child 12 (02, A2)
unfoldable pub field_with : ℕ → Bool → ℕ → ℕ → ℕ
field_with bits optional name child = bit optional * 2 ^ 31 + name * 2 ^ (31 - bits) + child

-- the name in such a word, and its zero field, each read off any word; the child is `child`, below
unfoldable pub name_with : ℕ → ℕ → ℕ
name_with bits w = w / 2 ^ (31 - bits) % 2 ^ bits

unfoldable pub zero_with : ℕ → ℕ → ℕ
zero_with bits w = w / 2 ^ 12 % 2 ^ (19 - bits)

-- the mark, in any field word
unfoldable pub field_optional : ℕ → Bool
field_optional w = eqb (w / 2 ^ 31 % 2) 1

-- a field word: optional 1 bit, name 16, zero 3, child 12 (02, A2)
unfoldable pub field_word : Bool → ℕ → ℕ → ℕ
unfolding field_with
field_word = field_with 16

unfoldable pub field_name : ℕ → ℕ
unfolding name_with
field_name = name_with 16

unfoldable pub field_zero : ℕ → ℕ
unfolding zero_with
field_zero = zero_with 16

-- an old one: optional 1 bit, name 8, zero 11, child 12 (01, "Words of the arena")
unfoldable pub old_field_word : Bool → ℕ → ℕ → ℕ
unfolding field_with
old_field_word = field_with 8

unfoldable pub old_field_name : ℕ → ℕ
unfolding name_with
old_field_name = name_with 8

unfoldable pub old_field_zero : ℕ → ℕ
unfolding zero_with
old_field_zero = zero_with 8

-- either, by the layout
abbrev pub name_bits : Layout → ℕ
name_bits layout.Old = 8
name_bits layout.New = 16

abbrev pub field_word_in : Layout → Bool → ℕ → ℕ → ℕ
field_word_in layout.Old = old_field_word
field_word_in layout.New = field_word

abbrev pub field_name_in : Layout → ℕ → ℕ
field_name_in layout.Old = old_field_name
field_name_in layout.New = field_name

abbrev pub field_zero_in : Layout → ℕ → ℕ
field_zero_in layout.Old = old_field_zero
field_zero_in layout.New = field_zero

-- what fits into a field word's fields
pub record FieldFitsIn (l : Layout) (name child : ℕ) : Type 0 where
  pub few_names : name < 2 ^ name_bits l
  pub few_nodes : child < 2 ^ 12

abbrev pub FieldFits : ℕ → ℕ → Type 0
FieldFits = FieldFitsIn layout.New

-- the word of a child alone: zero 20 bits, child 12; a field's child stands in the same 12 bits
unfoldable pub child_zero : ℕ → ℕ
child_zero w = w / 2 ^ 12

unfoldable pub child : ℕ → ℕ
child w = w % 2 ^ 12
