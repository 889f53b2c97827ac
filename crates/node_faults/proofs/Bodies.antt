-- The fault of a body, test after test.
use Prim.Native.Nat.{ℕ, ◌-◌, ◌<◌, ◌≤◌}
use mathlib.Core.Path.{◌≡◌, refl, sym, ap, ◌∙◌}
use mathlib.Core.Bool.{Bool, true, false, not, ◌&&◌}
use mathlib.Core.List.{List, [], map}
use native.Mathlib.Omega.{arith}
use lib.ListN.{length, get_or, take, drop, length-drop, drop_of_length-le}
use lib.Seq.{take_all, length-take-le}
use lib.Dec.{ltb}
use borrow.Author.Tests.{lt-ltb, le-ltb}
use Rattle.std.specs.Prelude.{Ok, Err}
use Rattle.types.specs.declared.refusal.Refusal.TheVariants as refusal
use Rattle.types.specs.Out.{Out}
use Rattle.words.specs.Words.{bit, child, child_zero, field_name, field_zero, field_optional}
use Rattle.types.specs.Kind.{code, children, fields, name}
use Rattle.types.specs.Node.{below, rising, children_of}
use Rattle.types.specs.Fault.{each_zero, body_fits_in, first}
use Rattle.node_faults.specs.Inner.{body_fault}

and_true_is : (x : Bool) → x ≡ (x && true)
and_true_is true = refl
and_true_is false = refl

-- ---- a set's field words
pub field_part_length : (b : List ℕ) (d : Bool) {k : ℕ} → k ≡ length b - bit d → k ≡ length (take k b)
field_part_length b d {k} e = sym (length-take-le k b (omega arith))

-- ---- the answer, from what each test comes to
-- a body of field words and child words, besides a test of its own
abbrev parted : ℕ → ℕ → List ℕ → Bool → List ℕ → List ℕ → Out (Unit {0})
parted table nodes b own fs cs =
    first (own && (each_zero field_zero fs && each_zero child_zero cs)) (below nodes (map child b) && below table (map field_name fs)) (rising (map field_name fs))

module _ (table nodes : ℕ) (d : Bool) (b : List ℕ) where
  pub code_good : {x : ℕ} → x ≡ get_or b 0 0 → x < 8 → Ok tt ≡ body_fault table nodes code d b
  unfolding body_fault body_fits_in each_zero below rising children_of
  code_good {x} e l = let p : ltb (get_or b 0 0) 8 ≡ true = ap (λ (v : ℕ). ltb v 8) (sym e) ∙ lt-ltb x 8 l in rw p

  pub code_high : {x : ℕ} → x ≡ get_or b 0 0 → 8 ≤ x → Err refusal.MalformedNode ≡ body_fault table nodes code d b
  unfolding body_fault body_fits_in each_zero below rising children_of
  code_high {x} e l = let p : ltb (get_or b 0 0) 8 ≡ false = ap (λ (v : ℕ). ltb v 8) (sym e) ∙ le-ltb x 8 l in rw p

  pub children_all : {r : Out (Unit {0})} {z l : Bool} → r ≡ first z l true → z ≡ each_zero child_zero b → l ≡ below nodes (map child b) → r ≡ body_fault table nodes children d b
  unfolding body_fault body_fits_in each_zero below rising children_of
  children_all e p q = e ∙ (λ i. first (p i) ((q ∙ and_true_is _) i) true)

  -- the parts as the code lends them: `&body[..k]` and `&body[k..]`
  pub fields_all : {k : ℕ} {r : Out (Unit {0})} {z y l n u : Bool} → r ≡ first (z && y) (l && n) u → k ≡ length b - bit d → z ≡ each_zero field_zero (take k b) → y ≡ each_zero child_zero (take (length b - k) (drop k b)) → l ≡ below nodes (map child b) → n ≡ below table (map field_name (take k b)) → u ≡ rising (map field_name (take k b)) → r ≡ body_fault table nodes fields d b
  unfolding body_fault body_fits_in children_of
  fields_all {k} e m p q s t u =
      let rest = take_all (length b - k) (drop k b) (omega (arith, length-drop k b)) in
      e ∙ (λ i. first (p i && (q ∙ ap (each_zero child_zero) rest) i) (s i && t i) (u i)) ∙ (λ i. parted table nodes b true (take (m i) b) (drop (m i) b))

-- ---- a name: the one field of a set, and not optional
module _ (table nodes : ℕ) (b : List ℕ) {x : ℕ} (e : x ≡ get_or b 0 0) {o : Bool} (p : o ≡ field_optional x) where
  name_as : {v : Bool} → o ≡ v → parted table nodes b (not v) b [] ≡ body_fault table nodes name false b
  unfolding body_fault body_fits_in each_zero children_of
  name_as q = λ i. parted table nodes b (not ((sym q ∙ p ∙ ap field_optional e) i)) b []

  pub name_optional : o ≡ true → Err refusal.MalformedNode ≡ body_fault table nodes name false b
  name_optional q = name_as q

  pub name_good : o ≡ false → each_zero field_zero b ≡ true → below nodes (map child b) ≡ true → below table (map field_name b) ≡ true → rising (map field_name b) ≡ true → Ok tt ≡ body_fault table nodes name false b
  unfolding each_zero
  name_good q z l n u = sym (λ i. first (z i && true) (l i && n i) (u i)) ∙ name_as q

  pub name_field : o ≡ false → {r : Out (Unit {0})} → r ≡ body_fault table nodes fields false b → r ≡ body_fault table nodes name false b
  unfolding body_fault body_fits_in children_of
  name_field q s =
      let t : take (length b - 0) b ≡ b = take_all (length b - 0) b (omega arith) in
      let u : drop (length b - 0) b ≡ [] = drop_of_length-le b {i = length b - 0} (omega arith) in
      s ∙ (λ i. parted table nodes b true (t i) (u i)) ∙ name_as q
