-- A word and its fields: each field of a made word reads back, and a word whose zero bits are zero is made of its fields.
use Prim.Native.Nat.{ℕ, ◌+◌, ◌*◌, ◌/◌, ◌%◌, ◌^◌, ◌≤◌, ◌<◌}
use mathlib.Core.Path.{◌≡◌, refl, ap, ◌∙◌}
use mathlib.Core.Bool.{Bool, true, false, not}
use native.Mathlib.Nat.{div-div-eq-div-mul}
use native.Mathlib.Omega.{arith}
use native.Mathlib.Decide.{ℕ_discrete}
use lib.Dec.{eqb}
use borrow.Author.Tests.{eq-eqb, ne_eqb}
use Rattle.words.specs.Words.{bit, IsBit, head_word, head_kind, head_open, head_dynamic, head_zero, head_count, field_word, old_field_word, field_optional, field_name, old_field_name, field_zero, old_field_zero, child, child_zero}
use Rattle.words.specs.Inner.{renewed}
use Rattle.words.specs.declared.Layout.TheVariants as layout
use Rattle.words.specs.Theorems.{HeadsMade, HeadBounded, HeadOfFields, FieldsMade, FieldBounded, FieldOfFields, OldIsNew, FieldsRenewed, ChildZeroMade, ChildOfFields}

-- ---- a flag is a number below 2, read by comparing it with 1
bit_small : (b : Bool) → bit b ≤ 1
bit_small true = omega arith
bit_small false = omega arith

eqb_bit : {x : ℕ} (b : Bool) → x ≡ bit b → eqb x 1 ≡ b
eqb_bit {x} true e = eq-eqb x 1 e
eqb_bit {x} false e = ne_eqb x 1 (λ h. omega arith)

bit_eqb : (x : ℕ) → x < 2 → bit (eqb x 1) ≡ x
bit_eqb x h = go (ℕ_discrete x 1)
  where
    go : Dec (x ≡ 1) → bit (eqb x 1) ≡ x
    go (yes e) = rw (eq-eqb x 1 e) (omega arith)
    go (no f) = rw (ne_eqb x 1 f) (omega arith)

-- ---- the fields of a made head
pub head_made : HeadsMade
unfolding head_word head_kind head_open head_dynamic head_zero head_count
head_made kind op dyn count fits = record {
  kind_back = omega (arith, bit_small op, bit_small dyn);
  open_back = eqb_bit {x = head_word kind op dyn count / 2 ^ 27 % 2} op (omega (arith, bit_small op, bit_small dyn));
  dynamic_back = eqb_bit {x = head_word kind op dyn count / 2 ^ 26 % 2} dyn (omega (arith, bit_small op, bit_small dyn));
  zero_back = omega (arith, bit_small op, bit_small dyn);
  count_back = omega (arith, bit_small op, bit_small dyn);
  small = omega (arith, bit_small op, bit_small dyn);
}

-- ---- the fields of any head
pub head_bounded : HeadBounded
unfolding head_kind head_count
head_bounded w h = omega arith

pub head_of_fields : HeadOfFields
unfolding head_word head_kind head_open head_dynamic head_zero head_count
head_of_fields w z =
    omega (
      arith,
      bit_eqb (w / 2 ^ 27 % 2) (omega arith),
      bit_eqb (w / 2 ^ 26 % 2) (omega arith),
      div-div-eq-div-mul w (2 ^ 16) (2 ^ 10),
      div-div-eq-div-mul w (2 ^ 26) 2,
      div-div-eq-div-mul w (2 ^ 27) 2,
    )

-- ---- the fields of a made field word
pub field_made : FieldsMade
unfolding field_word old_field_word field_optional field_name old_field_name field_zero old_field_zero child
field_made layout.Old optional name node fits = record {
  optional_back = eqb_bit {x = old_field_word optional name node / 2 ^ 31 % 2} optional (omega (arith, bit_small optional));
  name_back = omega (arith, bit_small optional);
  zero_back = omega (arith, bit_small optional);
  child_back = omega (arith, bit_small optional);
  small = omega (arith, bit_small optional);
}
field_made layout.New optional name node fits = record {
  optional_back = eqb_bit {x = field_word optional name node / 2 ^ 31 % 2} optional (omega (arith, bit_small optional));
  name_back = omega (arith, bit_small optional);
  zero_back = omega (arith, bit_small optional);
  child_back = omega (arith, bit_small optional);
  small = omega (arith, bit_small optional);
}

-- ---- the fields of any field word, and of any child word
pub field_bounded : FieldBounded
unfolding field_name old_field_name child
field_bounded layout.Old w = record { few_names = omega arith; few_nodes = omega arith }
field_bounded layout.New w = record { few_names = omega arith; few_nodes = omega arith }

pub field_of_fields : FieldOfFields
unfolding field_word old_field_word field_optional field_name old_field_name field_zero old_field_zero child
field_of_fields layout.Old w h z =
    let top : w / 2 ^ 31 % 2 ≡ w / 2 ^ 31 = omega arith in
    omega (arith, bit_eqb (w / 2 ^ 31 % 2) (omega arith), div-div-eq-div-mul w (2 ^ 12) (2 ^ 11), div-div-eq-div-mul w (2 ^ 23) (2 ^ 8))
field_of_fields layout.New w h z =
    let top : w / 2 ^ 31 % 2 ≡ w / 2 ^ 31 = omega arith in
    omega (arith, bit_eqb (w / 2 ^ 31 % 2) (omega arith), div-div-eq-div-mul w (2 ^ 12) (2 ^ 3), div-div-eq-div-mul w (2 ^ 15) (2 ^ 16))

-- ---- old words as new ones
pub old_is_new : OldIsNew
unfolding field_word old_field_word
old_is_new optional name node = omega arith

-- the flag that a field which is to be 0 isn't
marked : (z : ℕ) → eqb (bit (not (eqb z 0))) 0 ≡ eqb z 0
marked z = go (eqb z 0)
  where
    go : (b : Bool) → eqb (bit (not b)) 0 ≡ b
    go true = refl
    go false = refl

last : (k z : ℕ) → z < 8 → (k * 8 + z) % 8 ≡ z
last k z h = omega arith

-- the parts of a field word whose lowest zero bit may be set
record Marked (o z : Bool) (n c x : ℕ) : Type 0 where
  pub optional_so : x / 2 ^ 31 % 2 ≡ bit o
  pub name_so : x / 2 ^ 15 % 2 ^ 16 ≡ n
  pub zero_so : x / 2 ^ 12 % 2 ^ 3 ≡ bit z
  pub child_so : x % 2 ^ 12 ≡ c
  pub small : x < 2 ^ 32

marked_parts : (o z : Bool) (n c : ℕ) → n < 2 ^ 8 → c < 2 ^ 12 → Marked o z n c (bit o * 2 ^ 31 + n * 2 ^ 15 + c + bit z * 2 ^ 12)
marked_parts o z n c p q =
    let x = bit o * 2 ^ 31 + n * 2 ^ 15 + c + bit z * 2 ^ 12 in
    let k = bit o * 2 ^ 16 + n in
    let high : x / 2 ^ 12 ≡ k * 8 + bit z = omega (arith, bit_small o, bit_small z) in
    record {
      optional_so = omega (arith, bit_small o, bit_small z);
      name_so = omega (arith, bit_small o, bit_small z);
      zero_so = ap (λ (y : ℕ). y % 8) high ∙ last k (bit z) (omega (arith, bit_small z));
      child_so = omega (arith, bit_small o, bit_small z);
      small = omega (arith, bit_small o, bit_small z);
    }

pub field_renewed : FieldsRenewed
unfolding renewed field_word field_optional field_name old_field_name field_zero old_field_zero child
field_renewed w =
    let o = field_optional w in
    let z = not (eqb (old_field_zero w) 0) in
    let M = marked_parts o z (old_field_name w) (child w) (omega arith) (omega arith) in
    record {
      optional_kept = eqb_bit {x = renewed w / 2 ^ 31 % 2} o M.optional_so;
      name_kept = M.name_so;
      zero_kept = ap (λ (x : ℕ). eqb x 0) M.zero_so ∙ marked (old_field_zero w);
      child_kept = M.child_so;
      small = M.small;
    }

pub child_zero_made : ChildZeroMade
unfolding child_zero
child_zero_made n h = omega arith

pub child_of_fields : ChildOfFields
unfolding child_zero child
child_of_fields w z = omega arith

-- what `renewed` makes of the parts that it reads
pub renewed_is : (w : ℕ) {n f b : ℕ} {o z : Bool} → o ≡ field_optional w → n ≡ w / 2 ^ 23 % 2 ^ 8 → f ≡ field_word o n (w % 2 ^ 12) → z ≡ not (eqb (w / 2 ^ 12 % 2 ^ 11) 0) → IsBit z b → f + b * 4096 ≡ renewed w
unfolding renewed old_field_name old_field_zero child
renewed_is w p q r s t = (λ i. r i + t.value i * 4096) ∙ (λ i. field_word (p i) (q i) (w % 2 ^ 12) + bit (s i) * 4096)
