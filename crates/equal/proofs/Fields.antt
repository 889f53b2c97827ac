-- Two field words, and as many of them, are the same by a map of names: by their marks and then by the map, one after another. The fields of two nodes so are spelt the same, and no others are.
use Prim.Native.Nat.{ℕ, ◌+◌, ◌<◌, ◌≤◌}
use mathlib.Core.Path.{◌≡◌, refl, sym, ap, ap₂, ◌∙◌}
use mathlib.Core.Bool.{Bool, true, false, not, ◌&&◌, beq}
use mathlib.Core.List.{List, [], ◌∷◌, map}
use native.Mathlib.Numerals.{add-one}
use native.Mathlib.Omega.{arith}
use mir.Syntax.{w64}
use mir.Val.{Fits}
use lib.ListN.{length, get_or, drop, drop_of_length-le, get_or-eq_default}
use lib.Seq.{drop-cons}
use lib.Dec.{eqb}
use borrow.Author.Tests.{eqb-true, eq-eqb, ne_eqb, not-true as negated, not-false}
use Rattle.words.specs.declared.Layout.TheVariants as layout
use Rattle.words.specs.Words.{field_optional, field_name}
use Rattle.words.proofs.Words.{field_bounded}
use Rattle.types.specs.Node.{field_of, field_names, below}
use Rattle.types.proofs.Tests.{true_false, and_true, both}
use Rattle.types.proofs.Lists.{below_cons}
use Rattle.types.proofs.Nodes.{cons}
use Rattle.names.specs.Table.{Name}
use Rattle.equal.specs.Equal.{spelling, spell}
use Rattle.name_matching.specs.Inner.{Matches}
use Rattle.equal.specs.Inner.Data.{same_field, same_fields}

-- ---- two flags
flags_same : (a b : Bool) → beq a b ≡ true → a ≡ b
flags_same true true h = refl
flags_same true false h = absurd (true_false (sym h))
flags_same false true h = absurd (true_false (sym h))
flags_same false false h = refl

same_flags : (a b : Bool) → a ≡ b → beq a b ≡ true
same_flags true true h = refl
same_flags true false h = absurd (true_false h)
same_flags false true h = absurd (true_false (sym h))
same_flags false false h = refl

-- ---- two fields
module _ (ks : List ℕ) (v w : ℕ) {a b : Bool} (p : a ≡ field_optional v) (q : b ≡ field_optional w) where
  by_marks : {x : Bool} → beq a b ≡ x → same_field ks v w ≡ (x && eqb (get_or ks (field_name v) 0) (field_name w + 1))
  unfolding same_field
  by_marks e = ap (λ (x : Bool). x && eqb (get_or ks (field_name v) 0) (field_name w + 1)) (ap₂ beq (sym p) (sym q) ∙ e)

  pub marks_differ : not (beq a b) ≡ true → false ≡ same_field ks v w
  marks_differ h = sym (by_marks (negated (beq a b) h))

  -- a name past the end of the map has no entry
  pub name_unmapped : not (beq a b) ≡ false → length ks ≡ 4096 → {i : ℕ} → i ≡ field_name v → 4096 ≤ i → false ≡ same_field ks v w
  name_unmapped h l e m =
      let z : get_or ks (field_name v) 0 ≡ 0 = get_or-eq_default ks 0 (omega arith) in
      sym (by_marks (not-false (beq a b) h) ∙ ne_eqb (get_or ks (field_name v) 0) (field_name w + 1) (λ q. omega arith))

  pub names_told : not (beq a b) ≡ false → {i j k : ℕ} → i ≡ field_name v → k ≡ get_or ks i 0 → j ≡ field_name w → eqb k (j + 1) ≡ same_field ks v w
  names_told h e f g = sym (by_marks (not-false (beq a b) h) ∙ sym (ap₂ eqb (f ∙ ap (λ (x : ℕ). get_or ks x 0) e) (ap (λ (x : ℕ). x + 1) g)))

pub name_next : (w : ℕ) {j : ℕ} → j ≡ field_name w → Fits w64 (j + 1)
name_next w e = omega (arith, e, (field_bounded layout.New w).few_names)

-- ---- as many of each
-- the words passed are the same, so the rests decide
pub record Same_so_far (ks e f : List ℕ) (i : ℕ) : Type 0 where
  pub long : length e ≡ length f
  pub high : i ≤ length e
  pub rest : same_fields ks e f ≡ same_fields ks (drop i e) (drop i f)

module _ {ks e f : List ℕ} where
  pub fields_start : length e ≡ length f → Same_so_far ks e f 0
  fields_start h = record { long = h; high = omega arith; rest = refl }

  module _ {i : ℕ} (S : Same_so_far ks e f i) where
    next : i < length e → {b : Bool} → b ≡ same_field ks (get_or e i 0) (get_or f i 0) → same_fields ks e f ≡ (b && same_fields ks (drop (i + 1) e) (drop (i + 1) f))
    unfolding same_fields
    next h q =
        S.rest ∙ ap₂ (same_fields ks) (drop-cons e i 0 h) (drop-cons f i 0 (omega (arith, S.long)))
        ∙ ap₂ (λ (x : Bool) (k : ℕ). x && same_fields ks (drop k e) (drop k f)) (sym q) (sym (add-one i))

    pub fields_other : i < length e → {b : Bool} → b ≡ same_field ks (get_or e i 0) (get_or f i 0) → not b ≡ true → false ≡ same_fields ks e f
    fields_other h {b} q r = sym (next h q ∙ rw (negated b r))

    pub fields_more : i < length e → {b : Bool} → b ≡ same_field ks (get_or e i 0) (get_or f i 0) → not b ≡ false → Same_so_far ks e f (i + 1)
    fields_more h {b} q r = record { long = S.long; high = omega arith; rest = next h q ∙ rw (not-false b r) }

    pub fields_done : length e ≤ i → true ≡ same_fields ks e f
    unfolding same_fields
    fields_done h = sym (S.rest ∙ ap₂ (same_fields ks) (drop_of_length-le e h) (drop_of_length-le f {i = i} (omega (arith, S.long))))

-- ---- the fields of two nodes
module _ {ns ms : List Name} {ks : List ℕ} (M : Matches ns ms ks) where
  pub fields_spelt : (e f : List ℕ) → below (length ns) (field_names (map field_of e)) ≡ true → below (length ms) (field_names (map field_of f)) ≡ true → same_fields ks e f ≡ true → map (spell ns) (map field_of e) ≡ map (spell ms) (map field_of f)
  unfolding same_fields same_field
  fields_spelt [] [] p q h = refl
  fields_spelt [] (w ∷ f) p q h = absurd (true_false (sym h))
  fields_spelt (v ∷ e) [] p q h = absurd (true_false (sym h))
  fields_spelt (v ∷ e) (w ∷ f) p q h =
      let x = below_cons (length ns) (field_name v) (field_names (map field_of e)) p in
      let y = below_cons (length ms) (field_name w) (field_names (map field_of f)) q in
      let g = and_true (same_field ks v w) (same_fields ks e f) h in
      let k = and_true (beq (field_optional v) (field_optional w)) (eqb (get_or ks (field_name v) 0) (field_name w + 1)) g.0 in
      cons (ap₂ spelling (flags_same _ _ k.0) (M.texts (field_name v) (field_name w) x.0 y.0 (eqb-true _ _ k.1))) (fields_spelt e f x.1 y.1 g.1)

  pub spelt_fields : (e f : List ℕ) → below (length ns) (field_names (map field_of e)) ≡ true → below (length ms) (field_names (map field_of f)) ≡ true → map (spell ns) (map field_of e) ≡ map (spell ms) (map field_of f) → same_fields ks e f ≡ true
  unfolding same_fields same_field
  spelt_fields [] [] p q h = refl
  spelt_fields [] (w ∷ f) p q h = let z : ◌≡◌ {A = ℕ} 0 1 = cc in absurd (omega arith)
  spelt_fields (v ∷ e) [] p q h = let z : ◌≡◌ {A = ℕ} 0 1 = cc in absurd (omega arith)
  spelt_fields (v ∷ e) (w ∷ f) p q h =
      let x = below_cons (length ns) (field_name v) (field_names (map field_of e)) p in
      let y = below_cons (length ms) (field_name w) (field_names (map field_of f)) q in
      let o : field_optional v ≡ field_optional w = cc in
      let n : get_or ns (field_name v) [] ≡ get_or ms (field_name w) [] = cc in
      let r : map (spell ns) (map field_of e) ≡ map (spell ms) (map field_of f) = cc in
      both (both (same_flags _ _ o) (eq-eqb _ _ (M.numbers (field_name v) (field_name w) x.0 y.0 n))) (spelt_fields e f x.1 y.1 r)
