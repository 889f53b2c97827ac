-- A value held against a primitive, a list or a set: the words of both say whether the node takes it.
use Prim.Native.Nat.{ℕ, zero, suc, ◌-◌, ◌*◌, ◌<◌, ◌≤◌}
use mathlib.Core.Path.{◌≡◌, refl, sym, ap, ◌∙◌, subst}
use mathlib.Core.Bool.{Bool, true, false, not, ◌&&◌, ◌||◌}
use mathlib.Core.List.{List, [], ◌∷◌, ◌++◌, map}
use native.Mathlib.Omega.{arith}
use lib.ListN.{length, get_or, take, drop}
use lib.Seq.{drop-cons, take-suc, take_all, get_or-drop, get_or-take, length-take-le}
use lib.Dec.{eqb}
use borrow.Author.Tests.{eq-eqb, ne_eqb, eqb-true, not-true as negated, not-false}
use Rattle.std.proofs.lemmas.List.{get_or_default}
use Rattle.std.specs.Prelude.{IsTrue, ◌↔◌, EachIndex}
use Rattle.words.specs.Words.{bit, head_kind, head_open, head_dynamic, field_name, child}
use Rattle.types.specs.Kind as kinds
use Rattle.types.specs.Kind.{Kind, disc}
use Rattle.types.specs.Node.{Node, Field, tag, children, field_of, tag_of_in, children_of}
use Rattle.types.proofs.Tests.{true_false, and_true, both, not_true}
use Rattle.types.proofs.Decodes.{well_parts}
use Rattle.fix_values.specs.Values as values
use Rattle.fix_values.specs.Values.{Value, value, shape, kind, guess}
use Rattle.fix_values.specs.Fix.{Fix, value_at}
use Rattle.fitting.specs.Fits.{Test, first, each, primitive_takes, list_takes, field_test, fields_pass, other_test, set_takes, none_missing, node_takes}
use Rattle.fitting.specs.Inner.Rows.{pair, HasRow, HasPair}
use Rattle.fitting.specs.Inner.Sets.{Asks, Risen, words_take}
use Rattle.fitting.specs.Inner.Taken.{NodeIn, ValueIn, ListIn, SetsIn, TakesValue, Takes, SetTakes, Holding}
use Rattle.fitting.specs.declared.sets.Other.{Other}
use Rattle.fitting.specs.declared.sets.Other.TheVariants as other
use Rattle.fitting.proofs.ValueWords.{value_some, kind_guess, guess_list, guess_set, value_children, value_rises}
use Rattle.fitting.proofs.NodeWords.{read_node, node_read, node_some, code_inside, child_inside, child_row, field_row, dynamic_inside, fields_rise}

-- ---- primitives
module _ (c k : ℕ) where
  pub number_takes : c ≡ 7 → (eqb k 2 || eqb k 3) ≡ primitive_takes c k
  unfolding primitive_takes
  number_takes e = rw (eq-eqb c 7 e, primitive_takes)

  pub uri_takes : (c ≡ 7 → ⊥) → c ≡ 6 → eqb k 4 ≡ primitive_takes c k
  unfolding primitive_takes
  uri_takes f e = rw (ne_eqb c 7 f, primitive_takes, eq-eqb c 6 e)

  pub kind_takes : (c ≡ 7 → ⊥) → (c ≡ 6 → ⊥) → eqb c k ≡ primitive_takes c k
  unfolding primitive_takes
  kind_takes f g = rw (ne_eqb c 7 f, primitive_takes, ne_eqb c 6 g)

-- ---- the elements of a list
module _ (t : Test) where
  each_by : (us : List ℕ) → ((i : ℕ) → i < length us → t (child (get_or us i 0)) ≡ true) → each t (map child us) ≡ true
  unfolding each
  each_by [] f = refl
  each_by (u ∷ us) f = both (f 0 (omega arith)) (each_by us (λ i l. f (suc i) (omega arith)))

  each_at : (us : List ℕ) → each t (map child us) ≡ true → (i : ℕ) → i < length us → t (child (get_or us i 0)) ≡ true
  unfolding each
  each_at [] e i l = absurd (omega arith)
  each_at (u ∷ us) e zero l = (and_true (t (child u)) (each t (map child us)) e).0
  each_at (u ∷ us) e (suc i) l = each_at us (and_true (t (child u)) (each t (map child us)) e).1 i (omega arith)

  pub all_each : (us : List ℕ) (r : Bool) → (IsTrue r ↔ EachIndex us (λ i. t (child (get_or us i 0)) ≡ true)) → r ≡ each t (map child us)
  all_each us true e = sym (each_by us (e.0 refl))
  all_each us false e = sym (not_true (each t (map child us)) (λ f. true_false (sym (e.1 (each_at us f)))))

pub element_pair : {ps us : List ℕ} {width n : ℕ} → ListIn ps width n us → (i d : ℕ) → i < length us → HasPair ps width n (child (get_or us i d))
element_pair {us = us} L i d l = rw (get_or_default us i d 0 l) (L.each i l)

-- ---- what the node takes is read off its words
takes_read : {ws ps : List ℕ} {u : Value} {width : ℕ} {r : Bool} (k : Kind) → head_kind (get_or ws 0 0) ≡ disc k
    → ((f : Fix) (v : ℕ) → value_at f v ≡ u → r ≡ node_takes f (tag (read_node k ws)) (map (pair ps width) (children (read_node k ws))) v)
    → TakesValue ws u ps width r
takes_read {ws} {ps} {width = width} k p h = record {
  is = λ table nodes x w q f v e.
      h f v e ∙ ap (λ (y : Node). node_takes f (tag y) (map (pair ps width) (children y)) v) (sym (node_read ws x (well_parts table nodes x w).formed_so q k p));
}

-- ---- sets, by their field words
module _ (ps : List ℕ) (width : ℕ) (vs : List ℕ) (o : Bool) where
  static_words : (b : List ℕ) → words_take b vs ps width (other.Open o) ≡ set_takes (map field_of b) false o (map (pair ps width) (map child b)) (value (values.set (map field_name vs)) (map child vs))
  unfolding words_take set_takes
  static_words b = refl

  module _ (w : ℕ) where
    -- the child behind the fields is none of theirs
    fields_only : (fs : List ℕ) (t : Test) (n : ℕ) → field_test (map field_of fs) (map (pair ps width) (map child fs)) t n ≡ field_test (map field_of fs) (map (pair ps width) (map child (fs ++ (w ∷ [])))) t n
    unfolding field_test
    fields_only [] t n = refl
    fields_only (g ∷ fs) t n = λ i. elim (eqb n (field_name g)) as (λ _. Test) [ true ↦ pair ps width (child g) | false ↦ fields_only fs t n i ]

    last_test : (fs : List ℕ) → drop (length (map field_of fs)) (map (pair ps width) (map child (fs ++ (w ∷ [])))) ≡ pair ps width (child w) ∷ []
    last_test [] = refl
    last_test (g ∷ fs) = last_test fs

    dynamic_words : (fs : List ℕ) → words_take fs vs ps width (other.Type (child w)) ≡ set_takes (map field_of fs) true o (map (pair ps width) (map child (fs ++ (w ∷ [])))) (value (values.set (map field_name vs)) (map child vs))
    unfolding words_take set_takes
    dynamic_words fs =
        (λ i. none_missing (map field_of fs) (map field_name vs) && fields_pass (λ (n : ℕ). fields_only fs (pair ps width (child w)) n i) (map field_name vs) (map child vs))
        ∙ ap (λ (ts : List Test). none_missing (map field_of fs) (map field_name vs) && fields_pass (field_test (map field_of fs) (map (pair ps width) (map child (fs ++ (w ∷ [])))) (other_test true o ts)) (map field_name vs) (map child vs))
        (sym (last_test fs))

module _ {ws ps vs : List ℕ} {width : ℕ} (S : SetsIn ws ps width vs) where
  pub set_some : 0 < length ws
  set_some = node_some S.node

  asks_for : (fs : List ℕ) (o : Other) → Risen fs → ((i : ℕ) → i < length fs → HasRow ps width (child (get_or fs i 0))) → ((n : ℕ) → o ≡ other.Type n → HasRow ps width n) → Asks fs vs ps width o
  asks_for fs o R h g = record {
    type_rises = R;
    value_rises = S.rises;
    can = record {
      each = λ j l. record {
        fields = λ i k. record { row = h i k; fits = S.fits j l };
        dynamic = λ n e. record { row = g n e; fits = S.fits j l };
      };
    };
  }

  -- b is the body of the set type
  module _ {b : List ℕ} (q : b ≡ drop 1 ws) where
    rows : (i : ℕ) → i < length b → HasRow ps width (child (get_or b i 0))
    rows = subst (λ (x : List ℕ). (i : ℕ) → i < length x → HasRow ps width (child (get_or x i 0))) (sym q) (field_row S.node S.set)

    pub last_kept : length b - 1 ≡ length (take (length b - 1) b)
    last_kept = sym (length-take-le (length b - 1) b (omega arith))

    module _ {d : Bool} (e : d ≡ head_dynamic (get_or ws 0 0)) where
      some_last : bit d ≤ length b
      some_last = rw (q, e) (dynamic_inside S.node S.set)

      fields_so : Risen (take (length b - bit d) b)
      fields_so = rw (q, e) (fields_rise S.node S.set)

      -- the set type in terms of the body
      set_read : {r o : Bool} → o ≡ head_open (get_or ws 0 0) → r ≡ set_takes (map field_of (take (length b - bit d) b)) d o (map (pair ps width) (map child b)) (value (values.set (map field_name vs)) (map child vs)) → SetTakes ws vs ps width r
      unfolding node_takes tag_of_in children_of
      set_read p t = takes_read kinds.attr_set S.set
          (λ f v u. t ∙ (λ i. set_takes (map field_of (take (length (q i) - bit (e i)) (q i))) (e i) (p i) (map (pair ps width) (map child (q i))) (sym u i)))

      module _ (z : not d ≡ true) where
        all_fields : take (length b - bit d) b ≡ b
        all_fields = ap (λ (x : Bool). take (length b - bit x) b) (negated d z) ∙ take_all (length b - 0) b (omega arith)

        pub open_asks : {o : Bool} → Asks b vs ps width (other.Open o)
        open_asks {o} = asks_for b (other.Open o) (subst Risen all_fields fields_so) rows (λ n x. absurd (let y : ◌≡◌ {A = ℕ} 0 1 = cc in omega arith))

        pub open_takes : {o r : Bool} → o ≡ head_open (get_or ws 0 0) → r ≡ words_take b vs ps width (other.Open o) → SetTakes ws vs ps width r
        open_takes {o} p t =
            set_read p (t ∙ static_words ps width vs o b ∙ (λ i. set_takes (map field_of (sym all_fields i)) (sym (negated d z) i) o (map (pair ps width) (map child b)) (value (values.set (map field_name vs)) (map child vs))))

      module _ (z : not d ≡ false) where
        pub last_there : 1 ≤ length b
        last_there = rw (not-false d z) at some_last

        pub last_inside : length b - 1 < length b
        last_inside = omega (arith, last_there)

        but_last : take (length b - bit d) b ≡ take (length b - 1) b
        but_last = ap (λ (x : Bool). take (length b - bit x) b) (not-false d z)

        module _ {n : ℕ} (x : n ≡ child (get_or b (length b - 1) 0)) where
          pub type_asks : Asks (take (length b - 1) b) vs ps width (other.Type n)
          type_asks =
              asks_for (take (length b - 1) b) (other.Type n) (subst Risen but_last fields_so)
              (λ i l. let k : i < length b - 1 = omega (arith, l, last_kept) in rw (get_or-take (length b - 1) b i 0 k) (rows i (omega arith)))
              (λ m y. let same : n ≡ m = cc in subst (HasRow ps width) (sym x ∙ same) (rows (length b - 1) last_inside))

          pub type_takes : {r : Bool} → r ≡ words_take (take (length b - 1) b) vs ps width (other.Type n) → SetTakes ws vs ps width r
          type_takes t =
              let o = head_open (get_or ws 0 0) in
              let w = get_or b (length b - 1) 0 in
              let whole : take (length b - 1) b ++ (w ∷ []) ≡ b = sym (take-suc b (length b - 1) 0 last_inside) ∙ take_all (suc (length b - 1)) b (omega arith) in
              set_read refl (t ∙ ap (λ (m : ℕ). words_take (take (length b - 1) b) vs ps width (other.Type m)) x ∙ dynamic_words ps width vs o w (take (length b - 1) b)
              ∙ (λ i. set_takes (map field_of (sym but_last i)) (sym (not-false d z) i) o (map (pair ps width) (map child (whole i))) (value (values.set (map field_name vs)) (map child vs))))

-- ---- a value that the node's kind doesn't take
no_list : (t : Test) (u : Value) → (kind (shape u) ≡ 6 → ⊥) → false ≡ list_takes t u
unfolding list_takes
no_list t (value (values.plain k) cs) f = refl
no_list t (value values.list cs) f = absurd (f refl)
no_list t (value (values.set ns) cs) f = refl

no_set : (fs : List Field) (d o : Bool) (ts : List Test) (u : Value) → (kind (shape u) ≡ 7 → ⊥) → false ≡ set_takes fs d o ts u
unfolding set_takes
no_set fs d o ts (value (values.plain k) cs) f = refl
no_set fs d o ts (value values.list cs) f = refl
no_set fs d o ts (value (values.set ns) cs) f = absurd (f refl)

-- ---- by the kind of the node
module _ {ws ps us : List ℕ} {width k : ℕ} (N : NodeIn ws ps width) (U : ValueIn us width) (H : Holding ws k) where
  pub code_there : k ≡ 2 → 1 < length ws
  code_there e = code_inside N (sym H.is ∙ e)

  pub child_there : k ≡ 4 → 1 < length ws
  child_there e = child_inside N (sym H.is ∙ e)

  -- neither a primitive nor a list
  is_set : (k ≡ 2 → ⊥) → (k ≡ 4 → ⊥) → head_kind (get_or ws 0 0) ≡ 6
  is_set f g = sym H.is ∙ eqb-true k 6 (sym (λ i. ne_eqb k 2 f i || (ne_eqb k 4 g i || eqb k 6)) ∙ H.one_of)

  pub value_there : 1 ≤ length us
  value_there = value_some U

  module _ {j : ℕ} (q : j ≡ head_kind (get_or us 0 0)) where
    same_kind : (f : Fix) (v : ℕ) → value_at f v ≡ guess us → kind (shape (value_at f v)) ≡ j
    same_kind f v e = ap (λ (u : Value). kind (shape u)) e ∙ kind_guess U ∙ sym q

    pub code_takes : k ≡ 2 → {r : Bool} → r ≡ primitive_takes (get_or ws 1 0) j → Takes ws us ps width r
    unfolding node_takes tag_of_in children_of
    code_takes p t = takes_read kinds.primitive (sym H.is ∙ p) (λ f v e. t ∙ (λ i. primitive_takes (sym (get_or-drop 1 ws 0 0) i) (sym (same_kind f v e) i)))

    pub list_refuses : k ≡ 4 → (j ≡ 6 → ⊥) → Takes ws us ps width false
    unfolding node_takes tag_of_in children_of
    list_refuses p g = takes_read kinds.list (sym H.is ∙ p) (λ f v e. no_list _ (value_at f v) (λ x. g (sym (same_kind f v e) ∙ x)))

    pub set_refuses : (k ≡ 2 → ⊥) → (k ≡ 4 → ⊥) → (j ≡ 7 → ⊥) → Takes ws us ps width false
    unfolding node_takes tag_of_in children_of
    set_refuses p s g = takes_read kinds.attr_set (is_set p s) (λ f v e. no_set (map field_of (take (length (drop 1 ws) - bit (head_dynamic (get_or ws 0 0))) (drop 1 ws))) (head_dynamic (get_or ws 0 0)) (head_open (get_or ws 0 0)) (map (pair ps width) (map child (drop 1 ws))) (value_at f v) (λ x. g (sym (same_kind f v e) ∙ x)))

    -- vs is the body of the value
    module _ {vs : List ℕ} (l : vs ≡ drop 1 us) where
      fits : (i : ℕ) → i < length vs → child (get_or vs i 0) < width * 64
      fits = subst (λ (x : List ℕ). (i : ℕ) → i < length x → child (get_or x i 0) < width * 64) (sym l) (λ i h. omega (arith, value_children U i h, U.fits))

      pub list_asks : k ≡ 4 → {n : ℕ} → n ≡ child (get_or ws 1 0) → ListIn ps width n vs
      list_asks p e = record { each = λ i h. record { row = subst (HasRow ps width) (sym e) (child_row N (sym H.is ∙ p)); fits = fits i h } }

      pub list_tells : k ≡ 4 → j ≡ 6 → {n : ℕ} → n ≡ child (get_or ws 1 0) → {r : Bool} → r ≡ each (pair ps width n) (map child vs) → Takes ws us ps width r
      unfolding node_takes tag_of_in children_of list_takes
      list_tells p g e t = takes_read kinds.list (sym H.is ∙ p)
          (λ f v u. t ∙ (λ i. each (pair ps width (e i)) (map child (l i)))
          ∙ (λ i. list_takes (first (map (pair ps width) (map child (sym (drop-cons ws 1 0 (child_there p)) i)))) (sym (u ∙ guess_list U (sym q ∙ g)) i)))

      pub sets_asked : (k ≡ 2 → ⊥) → (k ≡ 4 → ⊥) → j ≡ 7 → SetsIn ws ps width vs
      sets_asked p s g = record { node = N; set = is_set p s; rises = subst Risen (sym l) (value_rises U (sym q ∙ g)); fits = fits }

      pub set_tells : j ≡ 7 → {r : Bool} → SetTakes ws vs ps width r → Takes ws us ps width r
      set_tells g {r} T = subst (λ (u : Value). TakesValue ws u ps width r) ((λ i. value (values.set (map field_name (l i))) (map child (l i))) ∙ sym (guess_set U (sym q ∙ g))) T
