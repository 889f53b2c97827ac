-- What is shown of the fields of a word beyond the contracts: a word that is made of fields reads back, and one whose zero bits are zero is
-- made of its fields (01, "Words of the arena").
use Rattle.std.specs.Prelude.{ℕ, ◌*◌, ◌^◌, ◌<◌, ◌≡◌, Bool, eqb}
use Rattle.words.specs.Words.{HeadFits, head_word, head_kind, head_open, head_dynamic, head_zero, head_count}
use Rattle.words.specs.Words.{FieldFitsIn, field_word_in, field_word, old_field_word, field_optional, field_name_in, field_name}
use Rattle.words.specs.Words.{old_field_name, field_zero_in, field_zero, old_field_zero, child, child_zero}
use Rattle.words.specs.declared.Layout.{Layout}
use Rattle.words.specs.Inner.{renewed}

-- each field of the head that is made of these reads back, and the head is a word
pub record HeadMade (kind : ℕ) (op dyn : Bool) (count : ℕ) : Type 0 where
  pub kind_back : head_kind (head_word kind op dyn count) ≡ kind
  pub open_back : head_open (head_word kind op dyn count) ≡ op
  pub dynamic_back : head_dynamic (head_word kind op dyn count) ≡ dyn
  pub zero_back : head_zero (head_word kind op dyn count) ≡ 0
  pub count_back : head_count (head_word kind op dyn count) ≡ count
  pub small : head_word kind op dyn count < 2 ^ 32

-- that is so of all that fit
abbrev pub HeadsMade : Type 0
HeadsMade = (kind : ℕ) (op dyn : Bool) (count : ℕ) → HeadFits kind count → HeadMade kind op dyn count

-- the fields of any word fit a head
abbrev pub HeadBounded : Type 0
HeadBounded = (w : ℕ) → w < 2 ^ 32 → HeadFits (head_kind w) (head_count w)

-- and where its zero field is 0 they make the word
abbrev pub HeadOfFields : Type 0
HeadOfFields = (w : ℕ) → head_zero w ≡ 0 → head_word (head_kind w) (head_open w) (head_dynamic w) (head_count w) ≡ w

-- each part of the word that is made for a field of these, in this layout, reads back, and it is a word
pub record FieldMade (l : Layout) (optional : Bool) (name node : ℕ) : Type 0 where
  pub optional_back : field_optional (field_word_in l optional name node) ≡ optional
  pub name_back : field_name_in l (field_word_in l optional name node) ≡ name
  pub zero_back : field_zero_in l (field_word_in l optional name node) ≡ 0
  pub child_back : child (field_word_in l optional name node) ≡ node
  pub small : field_word_in l optional name node < 2 ^ 32

-- that is so of all that fit
abbrev pub FieldsMade : Type 0
FieldsMade = (l : Layout) (optional : Bool) (name node : ℕ) → FieldFitsIn l name node → FieldMade l optional name node

-- the parts of any word fit a field
abbrev pub FieldBounded : Type 0
FieldBounded = (l : Layout) (w : ℕ) → FieldFitsIn l (field_name_in l w) (child w)

-- and where its zero field is 0 they make the word
abbrev pub FieldOfFields : Type 0
FieldOfFields =
    (l : Layout) (w : ℕ) → w < 2 ^ 32 → field_zero_in l w ≡ 0 → field_word_in l (field_optional w) (field_name_in l w) (child w) ≡ w

-- an old field word is the new one of another name, whose number is 256 times as high (02, A2)
abbrev pub OldIsNew : Type 0
OldIsNew = (optional : Bool) (name node : ℕ) → old_field_word optional name node ≡ field_word optional (256 * name) node

-- an old field word and the renewed one have the same parts, and the zero fields are 0 of both or of neither
pub record Renewed (w : ℕ) : Type 0 where
  pub optional_kept : field_optional (renewed w) ≡ field_optional w
  pub name_kept : field_name (renewed w) ≡ old_field_name w
  pub zero_kept : eqb (field_zero (renewed w)) 0 ≡ eqb (old_field_zero w) 0
  pub child_kept : child (renewed w) ≡ child w
  pub small : renewed w < 2 ^ 32

-- that is so of all
abbrev pub FieldsRenewed : Type 0
FieldsRenewed = (w : ℕ) → Renewed w

-- a child's number has a zero field of 0, and so is a child word
abbrev pub ChildZeroMade : Type 0
ChildZeroMade = (n : ℕ) → n < 2 ^ 12 → child_zero n ≡ 0

-- and a child word is its child's number
abbrev pub ChildOfFields : Type 0
ChildOfFields = (w : ℕ) → child_zero w ≡ 0 → child w ≡ w
