-- What the words of a value that may stand in a fix say: its kind, its children and, in a set, its names, which rise.
use Prim.Native.Nat.{ℕ, ◌<◌}
use mathlib.Core.Path.{◌≡◌, refl, sym, ap, ◌∙◌}
use mathlib.Core.Bool.{true}
use mathlib.Core.List.{List, [], ◌∷◌, map}
use native.Mathlib.Omega.{arith}
use lib.ListN.{length, get_or, drop, length-map, get_or-map}
use Rattle.words.specs.Words.{head_kind, field_name, child}
use Rattle.types.specs.Node.{below, rising}
use Rattle.types.proofs.Lists.{below_at}
use Rattle.fix_values.specs.Values.{Shape, list, set, Value, value, shape, children, kind, encode, well, shape_of, guess}
use Rattle.fix_values.proofs.ValueWords.{well_parts, head_reads}
use Rattle.fix_values.proofs.Fixes.{value_words}
use Rattle.fitting.specs.Inner.Sets.{Risen}
use Rattle.fitting.specs.Inner.Taken.{ValueIn}

-- ---- the words as they are read
module _ {us : List ℕ} {width : ℕ} (U : ValueIn us width) where
  words : (well U.table U.values_before (guess us) ≡ true) × (us ≡ encode (guess us))
  words = value_words U.table U.values_before us U.good

  pub value_some : 0 < length us
  unfolding encode
  value_some = omega (arith, ap length words.1)

  -- the kind in the head is the value's
  pub kind_guess : kind (shape (guess us)) ≡ head_kind (get_or us 0 0)
  unfolding encode
  kind_guess = sym (ap (λ (l : List ℕ). head_kind (get_or l 0 0)) words.1 ∙ go (guess us) words.0)
    where
      go : (u : Value) → well U.table U.values_before u ≡ true → head_kind (get_or (encode u) 0 0) ≡ kind (shape u)
      go (value s cs) w = (head_reads U.table U.values_before s cs (well_parts _ _ s cs w)).kind_back

children_guess : (us : List ℕ) → children (guess us) ≡ map child (drop 1 us)
unfolding guess
children_guess [] = refl
children_guess (h ∷ b) = refl

shape_guess : (us : List ℕ) → 0 < length us → shape (guess us) ≡ shape_of (head_kind (get_or us 0 0)) (drop 1 us)
unfolding guess
shape_guess [] l = absurd (omega arith)
shape_guess (h ∷ b) l = refl

made_of : (u : Value) {s : Shape} {cs : List ℕ} → shape u ≡ s → children u ≡ cs → u ≡ value s cs
made_of (value t ds) p q = λ i. value (p i) (q i)

module _ {us : List ℕ} {width : ℕ} (U : ValueIn us width) where
  pub guess_list : head_kind (get_or us 0 0) ≡ 6 → guess us ≡ value list (map child (drop 1 us))
  unfolding shape_of
  guess_list e = made_of (guess us) (shape_guess us (value_some U) ∙ ap (λ (k : ℕ). shape_of k (drop 1 us)) e) (children_guess us)

  pub guess_set : head_kind (get_or us 0 0) ≡ 7 → guess us ≡ value (set (map field_name (drop 1 us))) (map child (drop 1 us))
  unfolding shape_of
  guess_set e = made_of (guess us) (shape_guess us (value_some U) ∙ ap (λ (k : ℕ). shape_of k (drop 1 us)) e) (children_guess us)

  pub value_children : (i : ℕ) → i < length (drop 1 us) → child (get_or (drop 1 us) i 0) < U.values_before
  unfolding child
  value_children i l = omega (arith, get_or-map child (drop 1 us) i 0, below_at U.values_before (map child (drop 1 us)) (ap (below U.values_before) (sym (children_guess us)) ∙ linked (guess us) (words U).0) i (omega (arith, length-map (drop 1 us) child)))
    where
      linked : (u : Value) → well U.table U.values_before u ≡ true → below U.values_before (children u) ≡ true
      linked (value s cs) w = (well_parts _ _ s cs w).linked

  pub value_rises : head_kind (get_or us 0 0) ≡ 7 → Risen (drop 1 us)
  value_rises e = record { is = rises (map field_name (drop 1 us)) (map child (drop 1 us)) (ap (well U.table U.values_before) (sym (guess_set e)) ∙ (words U).0) }
    where
      rises : (ns cs : List ℕ) → well U.table U.values_before (value (set ns) cs) ≡ true → rising ns ≡ true
      rises ns cs w = (well_parts _ _ (set ns) cs w).rises
