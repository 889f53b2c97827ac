-- The names in the words of a node: where they stand, what the map has for them, and that the words with these numbers are those of the renamed node.
use Prim.Native.Nat.{ℕ, zero, suc, ◌+◌, ◌-◌, ◌^◌, ◌<◌, ◌≤◌}
use mathlib.Core.Path.{◌≡◌, refl, sym, ap, ◌∙◌}
use mathlib.Core.Bool.{Bool, true, false}
use mathlib.Core.List.{List, [], ◌∷◌, ◌++◌, map}
use mathlib.Core.Option.{some}
use native.Mathlib.Omega.{arith}
use native.Mathlib.Decide.{dec_lt}
use native.Mathlib.Numerals.{add-one}
use lib.ListN.{length, get_or, take}
use lib.Seq.{get_or-take, length-take-le, ext_get_or}
use borrow.Author.Tests.{eqb-true}
use Rattle.words.specs.declared.Layout.TheVariants as layout
use Rattle.words.specs.Words.{bit, head_word, field_word, field_name}
use Rattle.words.specs.Theorems.{FieldMade}
use Rattle.words.proofs.Words.{field_made}
use Rattle.types.specs.Kind.{disc, body_count}
use Rattle.types.specs.Node.{positive, negative, Field, field, primitive, list, lambda, attrset, named, Tag, members, bound, var, neg, form, node, kind, data_of, field_names, names, child_words, child_words_in, body, head_of, encode, encode_in, below}
use Rattle.types.specs.Arena.{absent}
use Rattle.types.proofs.Tests.{true_false, neither}
use Rattle.types.proofs.Lists.{below_cons}
use Rattle.types.proofs.Nodes.{Formed, length_child_words}
use Rattle.node_order.specs.WordsOrder.{field_count}
use Rattle.rebuilding.proofs.Exchanging.{no_numbers}
use Rattle.importing.specs.Import.{or_zero, renamed_field, renamed, lacks_one}
use Rattle.importing.specs.Inner.Names.{entry, by_map, Numbering, renamed_word, Known, Renaming, Renames}
use Rattle.importing.proofs.Renaming.{kind_renamed, data_renamed, body_renamed}

-- ---- entries of the map
less_one : (n : ℕ) → or_zero (entry n) ≡ n - 1
less_one zero = refl
less_one (suc p) = omega arith

pub some_entry : (n : ℕ) → absent (entry n) ≡ false → 0 < n
some_entry zero e = absurd (true_false e)
some_entry (suc p) e = omega arith

entry_is : (n : ℕ) → 0 < n → entry n ≡ some (n - 1)
entry_is zero h = absurd (omega arith)
entry_is (suc p) h = let e : p ≡ suc p - 1 = omega arith in ap some e

-- ---- how many words are fields
pub fields_count : (t : Tag) (cs : List ℕ) → Formed t cs → field_count (disc (kind t)) (data_of t).dynamic (length cs) ≡ length (data_of t).fields
unfolding field_count child_words_in body_count
fields_count (members positive) cs F = refl
fields_count (members negative) cs F = refl
fields_count (bound positive) cs F = refl
fields_count (bound negative) cs F = refl
fields_count (var v) cs F = refl
fields_count neg cs F = refl
fields_count (form (primitive c)) cs F = refl
fields_count (form list) cs F = refl
fields_count (form lambda) cs F = refl
fields_count (form (attrset fs d o)) cs F = let l = eqb-true (length cs) (length fs + bit d) F.matches in omega (arith, l)
fields_count (form (named n)) cs F = sym (length_child_words (field false n ∷ []) cs) ∙ eqb-true (length (child_words (field false n ∷ []) cs)) 1 F.counted

-- a field stands with a child
pub fields_few : (t : Tag) (cs : List ℕ) → Formed t cs → length (data_of t).fields ≤ length cs
unfolding child_words_in body_count
fields_few (members k) cs F = omega arith
fields_few (bound k) cs F = omega arith
fields_few (var v) cs F = omega arith
fields_few neg cs F = omega arith
fields_few (form (primitive c)) cs F = omega arith
fields_few (form list) cs F = omega arith
fields_few (form lambda) cs F = omega arith
fields_few (form (attrset fs d o)) cs F = let l = eqb-true (length cs) (length fs + bit d) F.matches in omega (arith, l)
fields_few (form (named n)) cs F = let l = sym (length_child_words (field false n ∷ []) cs) ∙ eqb-true (length (child_words (field false n ∷ []) cs)) 1 F.counted in omega (arith, l)

module _ (ks : List ℕ) where
  made : (o : Bool) (k c : ℕ) → k < 2 ^ 16 → c < 2 ^ 12 → FieldMade layout.New o k c
  made o k c h l = field_made layout.New o k c (record { few_names = h; few_nodes = l })

  field_renamed : (o : Bool) (k c : ℕ) → k < 2 ^ 16 → c < 2 ^ 12 → field_word o (or_zero (by_map ks k)) c ≡ renamed_word ks (field_word o k c)
  unfolding renamed_word
  field_renamed o k c h l =
      let M = made o k c h l in
      ap (λ (p : ℕ). field_word o p c) (less_one (get_or ks k 0))
      ∙ sym (λ i. field_word (M.optional_back i) (get_or ks (M.name_back i) 0 - 1) (M.child_back i))

  -- ---- the words of the fields, and those behind them
  fields_renamed : (fs : List Field) (es : List ℕ) → below (2 ^ 16) (field_names fs) ≡ true → below (2 ^ 12) es ≡ true → (j : ℕ) → j < length fs → j < length es
      → get_or (child_words (map (renamed_field (by_map ks)) fs) es) j 0 ≡ renamed_word ks (get_or (child_words fs es) j 0)
  unfolding child_words_in
  fields_renamed [] es n e j h l = absurd (omega arith)
  fields_renamed (x ∷ fs) [] n e j h l = absurd (omega arith)
  fields_renamed (field o k ∷ fs) (c ∷ es) n e zero h l = field_renamed o k c (below_cons (2 ^ 16) k (field_names fs) n).0 (below_cons (2 ^ 12) c es e).0
  fields_renamed (field o k ∷ fs) (c ∷ es) n e (suc j) h l = fields_renamed fs es (below_cons (2 ^ 16) k (field_names fs) n).1 (below_cons (2 ^ 12) c es e).1 j (omega arith) (omega arith)

  others_kept : (fs : List Field) (es : List ℕ) (j : ℕ) → length fs ≤ j → get_or (child_words (map (renamed_field (by_map ks)) fs) es) j 0 ≡ get_or (child_words fs es) j 0
  unfolding child_words_in
  others_kept [] es j h = refl
  others_kept (field o k ∷ fs) [] j h = refl
  others_kept (field o k ∷ fs) (c ∷ es) zero h = absurd (omega arith)
  others_kept (field o k ∷ fs) (c ∷ es) (suc j) h = others_kept fs es j (omega arith)

  -- the map has a number for each of the fields
  fields_known : {table : ℕ} → Numbering (by_map ks) table → length ks ≡ 4096 → (fs : List Field) (es : List ℕ) → below (2 ^ 16) (field_names fs) ≡ true → below (2 ^ 12) es ≡ true → lacks_one (by_map ks) (field_names fs) ≡ false
      → (j : ℕ) → j < length fs → j < length es → Known ks (get_or (child_words fs es) j 0)
  unfolding child_words_in lacks_one
  fields_known N q [] es n e a j h l = absurd (omega arith)
  fields_known N q (x ∷ fs) [] n e a j h l = absurd (omega arith)
  fields_known N q (field o k ∷ fs) (c ∷ es) n e a zero h l =
      let M = made o k c (below_cons (2 ^ 16) k (field_names fs) n).0 (below_cons (2 ^ 12) c es e).0 in
      let p = some_entry (get_or ks k 0) (neither (absent (by_map ks k)) (lacks_one (by_map ks) (field_names fs)) a).0 in
      let z : get_or ks (field_name (field_word o k c)) 0 ≡ get_or ks k 0 = ap (λ (i : ℕ). get_or ks i 0) M.name_back in
      let b = N.low k (get_or ks k 0 - 1) (entry_is (get_or ks k 0) p) in
      record { long = q; some = omega (arith, z, p); few = omega (arith, z, b, N.few) }
  fields_known N q (field o k ∷ fs) (c ∷ es) n e a (suc j) h l =
      fields_known N q fs es (below_cons (2 ^ 16) k (field_names fs) n).1 (below_cons (2 ^ 12) c es e).1 (neither (absent (by_map ks k)) (lacks_one (by_map ks) (field_names fs)) a).1 j (omega arith) (omega arith)

  -- ---- the words of a node with children
  module _ (t : Tag) (cs : List ℕ) (F : Formed t cs) (es : List ℕ) (q : length es ≡ length cs) (low : below (2 ^ 12) es ≡ true) (p : 0 < length cs) where
    body_is : body (node t es) ≡ child_words (data_of t).fields es
    body_is = ap (λ (l : List ℕ). l ++ child_words (data_of t).fields es) (no_numbers t cs F p)

    body_is_renamed : body (node (renamed (by_map ks) t) es) ≡ child_words (map (renamed_field (by_map ks)) (data_of t).fields) es
    body_is_renamed =
        (λ i. (data_renamed (by_map ks) t i).numbers ++ child_words (data_renamed (by_map ks) t i).fields es)
        ∙ ap (λ (l : List ℕ). l ++ child_words (map (renamed_field (by_map ks)) (data_of t).fields) es) (no_numbers t cs F p)

    head_is : head_of (node (renamed (by_map ks) t) es) ≡ head_of (node t es)
    unfolding head_of
    head_is = λ i. head_word (disc (kind_renamed (by_map ks) t i)) (data_renamed (by_map ks) t i).opened (data_renamed (by_map ks) t i).dynamic (body_renamed (by_map ks) t es i)

    length_is : length (encode (node t es)) ≡ suc (length es)
    unfolding encode_in
    length_is = ap (λ (b : List ℕ). suc (length b)) body_is ∙ ap suc (length_child_words (data_of t).fields es)

    word_is : (j : ℕ) → get_or (encode (node t es)) (j + 1) 0 ≡ get_or (child_words (data_of t).fields es) j 0
    unfolding encode_in
    word_is j = ap (λ (i : ℕ). get_or (encode (node t es)) i 0) (add-one j) ∙ ap (λ (b : List ℕ). get_or b j 0) body_is

    module _ {count : ℕ} (c : count ≡ length es) (few : count ≤ 65) (new : List ℕ) (size : length new ≡ 66) (E : take (count + 1) new ≡ encode (node t es)) where
      new_word : (j : ℕ) → j < count → get_or new (j + 1) 0 ≡ get_or (child_words (data_of t).fields es) j 0
      new_word j h = sym (get_or-take (count + 1) new (j + 1) 0 (omega arith)) ∙ ap (λ (l : List ℕ). get_or l (j + 1) 0) E ∙ word_is j

      fewer : length (data_of t).fields ≤ count
      fewer = let z = fields_few t cs F in omega (arith, z, c, q)

      pub may_rename : {table : ℕ} → Numbering (by_map ks) table → length ks ≡ 4096 → lacks_one (by_map ks) (names t) ≡ false → {m : ℕ} → m ≡ length (data_of t).fields → Renaming ks m new
      may_rename N l a {m} r = record {
        size = size;
        few = omega (arith, r, fewer, few);
        known = λ j h. rw (new_word j (omega (arith, h, r, fewer))) (fields_known N l (data_of t).fields es F.few_names low a j (omega (arith, h, r)) (omega (arith, h, r, fewer, c)));
      }

      pub renamed_encode : {m : ℕ} → m ≡ length (data_of t).fields → {new' : List ℕ} → Renames ks m new new' → take (count + 1) new' ≡ encode (node (renamed (by_map ks) t) es)
      unfolding encode_in
      renamed_encode {m} r {new'} R = ap (λ (i : ℕ). take i new') (add-one count) ∙ ext_get_or 0 (take (suc count) new') (encode (node (renamed (by_map ks) t) es)) (omega (arith, long, whole, c)) each
        where
          long : length (take (suc count) new') ≡ suc count
          long = length-take-le (suc count) new' (omega (arith, few, R.size))

          whole : length (encode (node (renamed (by_map ks) t) es)) ≡ suc (length es)
          whole = ap (λ (b : List ℕ). suc (length b)) body_is_renamed ∙ ap suc (length_child_words (map (renamed_field (by_map ks)) (data_of t).fields) es)

          word : (j : ℕ) → j < count → Dec (j < m) → get_or new' (j + 1) 0 ≡ get_or (child_words (map (renamed_field (by_map ks)) (data_of t).fields) es) j 0
          word j h (yes l) =
              R.each j l ∙ ap (renamed_word ks) (new_word j h)
              ∙ sym (fields_renamed (data_of t).fields es F.few_names low j (omega (arith, l, r)) (omega (arith, h, c)))
          word j h (no l) = R.rest j (omega arith) ∙ new_word j h ∙ sym (others_kept (data_of t).fields es j (omega (arith, l, r)))

          each : (j : ℕ) → j < length (take (suc count) new') → get_or (take (suc count) new') j 0 ≡ get_or (encode (node (renamed (by_map ks) t) es)) j 0
          each zero h =
              get_or-take (suc count) new' 0 0 (omega arith) ∙ R.head ∙ sym (get_or-take (count + 1) new 0 0 (omega arith))
              ∙ ap (λ (l : List ℕ). get_or l 0 0) E ∙ sym head_is
          each (suc j) h =
              let k : j < count = omega (arith, h, long) in
              get_or-take (suc count) new' (suc j) 0 (omega arith) ∙ ap (λ (i : ℕ). get_or new' i 0) (sym (add-one j)) ∙ word j k (dec_lt j m)
              ∙ ap (λ (b : List ℕ). get_or b j 0) (sym body_is_renamed)

  -- ---- a node without children has no name
  pub leaf_renamed : (t : Tag) (cs : List ℕ) → Formed t cs → length cs ≡ 0 → renamed (by_map ks) t ≡ t
  unfolding renamed child_words_in body_count
  leaf_renamed (members k) cs F z = refl
  leaf_renamed (bound k) cs F z = refl
  leaf_renamed (var v) cs F z = refl
  leaf_renamed neg cs F z = refl
  leaf_renamed (form (primitive c)) cs F z = refl
  leaf_renamed (form list) cs F z = refl
  leaf_renamed (form lambda) cs F z = refl
  leaf_renamed (form (attrset [] d o)) cs F z = refl
  leaf_renamed (form (attrset (x ∷ fs) d o)) cs F z = let l = eqb-true (length cs) (length (x ∷ fs) + bit d) F.matches in absurd (omega (arith, l, z))
  leaf_renamed (form (named n)) cs F z =
      let l = sym (length_child_words (field false n ∷ []) cs) ∙ eqb-true (length (child_words (field false n ∷ []) cs)) 1 F.counted in absurd (omega (arith, l, z))
