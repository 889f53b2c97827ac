-- A node with the numbers that its names have in another table: it is well formed there, since the numbers are those of names and stand as the names do.
use Prim.Native.Nat.{ℕ, ◌+◌, ◌^◌}
use mathlib.Core.Path.{◌≡◌, refl, sym, ap, ◌∙◌}
use mathlib.Core.Bool.{true, false}
use mathlib.Core.List.{List, [], ◌∷◌, map}
use mathlib.Core.Option.{Option, none, some}
use native.Mathlib.Omega.{arith}
use lib.ListN.{length, length-map}
use lib.Dec.{eqb, ltb}
use borrow.Author.Tests.{lt-ltb, ltb-true}
use Rattle.words.specs.Words.{bit}
use Rattle.types.specs.Kind.{body_count}
use Rattle.types.specs.Node.{Field, field, primitive, list, lambda, attrset, named, Tag, members, bound, var, neg, form, node, kind, Data, data_of, field_names, names, body, below, matched, linked, rising, well}
use Rattle.types.specs.Arena.{absent}
use Rattle.types.proofs.Tests.{true_false, and_true, both, neither}
use Rattle.types.proofs.Lists.{below_more}
use Rattle.types.proofs.Nodes.{cons, Formed, formed_parts, parts_formed}
use Rattle.types.proofs.Decodes.{well_parts, parts_well}
use Rattle.node_order.proofs.Fielded.{body_length}
use Rattle.importing.specs.Import.{or_zero, renamed_field, renamed, lacks_one}
use Rattle.importing.specs.Inner.Names.{Numbering}

-- a number that is there
pub there : (o : Option ℕ) → absent o ≡ false → o ≡ some (or_zero o)
there none e = absurd (true_false e)
there (some p) e = refl

module _ (f : ℕ → Option ℕ) where
  abbrev pub numbered : ℕ → ℕ
  numbered k = or_zero (f k)

  -- ---- what the words say of a renamed tag
  pub kind_renamed : (t : Tag) → kind (renamed f t) ≡ kind t
  unfolding renamed
  kind_renamed (members k) = refl
  kind_renamed (bound k) = refl
  kind_renamed (var v) = refl
  kind_renamed neg = refl
  kind_renamed (form (primitive c)) = refl
  kind_renamed (form list) = refl
  kind_renamed (form lambda) = refl
  kind_renamed (form (attrset fs d o)) = refl
  kind_renamed (form (named n)) = refl

  abbrev pub with_fields : List Field → Data → Data
  with_fields fs d = record { numbers = d.numbers; limit = d.limit; fields = fs; dynamic = d.dynamic; opened = d.opened }

  pub data_renamed : (t : Tag) → data_of (renamed f t) ≡ with_fields (map (renamed_field f) (data_of t).fields) (data_of t)
  unfolding renamed
  data_renamed (members k) = refl
  data_renamed (bound k) = refl
  data_renamed (var v) = refl
  data_renamed neg = refl
  data_renamed (form (primitive c)) = refl
  data_renamed (form list) = refl
  data_renamed (form lambda) = refl
  data_renamed (form (attrset fs d o)) = refl
  data_renamed (form (named n)) = refl

  matched_renamed : (t : Tag) (n : ℕ) → matched (renamed f t) n ≡ matched t n
  unfolding renamed
  matched_renamed (members k) n = refl
  matched_renamed (bound k) n = refl
  matched_renamed (var v) n = refl
  matched_renamed neg n = refl
  matched_renamed (form (primitive c)) n = refl
  matched_renamed (form list) n = refl
  matched_renamed (form lambda) n = refl
  matched_renamed (form (attrset fs d o)) n = ap (λ (l : ℕ). eqb n (l + bit d)) (length-map fs (renamed_field f))
  matched_renamed (form (named m)) n = refl

  names_of_fields : (fs : List Field) → field_names (map (renamed_field f) fs) ≡ map numbered (field_names fs)
  names_of_fields [] = refl
  names_of_fields (field o k ∷ fs) = cons refl (names_of_fields fs)

  pub names_renamed : (t : Tag) → names (renamed f t) ≡ map numbered (names t)
  names_renamed t = ap (λ (d : Data). field_names d.fields) (data_renamed t) ∙ names_of_fields (data_of t).fields

  pub body_renamed : (t : Tag) (cs : List ℕ) → length (body (node (renamed f t) cs)) ≡ length (body (node t cs))
  body_renamed t cs = body_length (renamed f t) cs ∙ ap (λ (d : Data). length d.numbers + length cs) (data_renamed t) ∙ sym (body_length t cs)

  -- ---- numbers of names that aren't lacking
  module _ {table : ℕ} (N : Numbering f table) where
    low_names : (ks : List ℕ) → lacks_one f ks ≡ false → below table (map numbered ks) ≡ true
    unfolding below lacks_one
    low_names [] e = refl
    low_names (k ∷ ks) e =
        let p = neither (absent (f k)) (lacks_one f ks) e in
        both (lt-ltb (numbered k) table (N.low k (numbered k) (there (f k) p.0))) (low_names ks p.1)

    rising_names : (ks : List ℕ) → lacks_one f ks ≡ false → rising ks ≡ true → rising (map numbered ks) ≡ true
    unfolding rising lacks_one
    rising_names [] e r = refl
    rising_names (k ∷ []) e r = refl
    rising_names (k ∷ j ∷ ks) e r =
        let p = neither (absent (f k)) (lacks_one f (j ∷ ks)) e in
        let q = neither (absent (f j)) (lacks_one f ks) p.1 in
        let s = and_true (ltb k j) (rising (j ∷ ks)) r in
        both (lt-ltb (numbered k) (numbered j) (N.rises k j (numbered k) (numbered j) (ltb-true k j s.0) (there (f k) p.0) (there (f j) q.0))) (rising_names (j ∷ ks) p.1 s.1)

    -- a well-formed node is one in the other table
    pub renamed_well : (own n : ℕ) (t : Tag) (cs : List ℕ) → well own n (node t cs) ≡ true → lacks_one f (names t) ≡ false → well table n (node (renamed f t) cs) ≡ true
    unfolding linked
    renamed_well own n t cs w e =
        let W = well_parts own n (node t cs) w in
        let F = formed_parts t cs W.formed_so in
        let low : below table (names (renamed f t)) ≡ true = ap (below table) (names_renamed t) ∙ low_names (names t) e in
        let G : Formed (renamed f t) cs = record {
          counted = (λ i. body_count (kind_renamed t i) (data_renamed t i).dynamic (body_renamed t cs i)) ∙ F.counted;
          matches = matched_renamed t (length cs) ∙ F.matches;
          own = (λ i. below (data_renamed t i).limit (data_renamed t i).numbers) ∙ F.own;
          few_names = below_more table (2 ^ 16) (names (renamed f t)) (omega (arith, N.few)) low;
          few_nodes = F.few_nodes;
        } in
        parts_well table n (node (renamed f t) cs) (record {
          formed_so = parts_formed (renamed f t) cs G;
          linked_so = both (and_true (below n cs) (below own (names t)) W.linked_so).0 low;
          rising_so = ap rising (names_renamed t) ∙ rising_names (names t) e W.rising_so;
        })
