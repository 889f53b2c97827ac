-- The row of a node, by its kind: where its children's rows are joined, that is what the node takes.
use Prim.Native.Nat.{ℕ}
use mathlib.Core.Path.{◌≡◌, refl, sym, ap, ◌∙◌, subst}
use mathlib.Core.Bool.{Bool, true, false, not, ◌&&◌, ◌||◌, xor}
use mathlib.Core.List.{List, [], ◌∷◌, ◌++◌, map}
use mathlib.Core.Logic.{◌⊎◌, inl, inr}
use native.Mathlib.Omega.{arith}
use lib.ListN.{length, get_or, replicate, length-replicate, length-map, get_or-map}
use borrow.Author.Tests.{eqb-true}
use Rattle.words.specs.Words.{head_kind, child}
use Rattle.types.specs.Kind.{disc, body_count}
use Rattle.types.specs.Node.{positive, negative, primitive, list, lambda, attrset, named, Tag, members, bound, var, neg, form, Node, node, tag, kind, data_of, child_words, body, children, encode, formed, well}
use Rattle.types.specs.Fault.{children_in}
use Rattle.types.proofs.Faults.{children_encode}
use Rattle.types.proofs.Decodes.{well_parts}
use Rattle.types.proofs.Nodes.{formed_parts, length_child_words, nil}
use Rattle.node_store.specs.Inner.Children.{ChildWords}
use Rattle.node_reading.proofs.NodeReads.{kind_encode}
use Rattle.bits.proofs.Sets.{has_none}
use Rattle.fix_values.specs.Fix.{Fix}
use Rattle.fitting.specs.Fits.{Test, some_pass, all_pass, first, node_takes}
use Rattle.fitting.specs.Inner.Rows.{pair, HasRow}
use Rattle.fitting.specs.Inner.Joined.{starts_full, join, join_all, RowsOf, JoinsAll}
use Rattle.fitting.specs.Inner.Taken.{Against, RowOf}

-- ---- joined one by one
or_all : (F : ℕ → Test) (v : ℕ) (b : Bool) (cs : List ℕ) → join_all 7 b (map (λ (n : ℕ). F n v) cs) ≡ (b || some_pass (map F cs) v)
unfolding join_all join some_pass
or_all F v true [] = refl
or_all F v false [] = refl
or_all F v true (c ∷ cs) = or_all F v true cs
or_all F v false (c ∷ cs) = or_all F v (F c v) cs

and_all : (F : ℕ → Test) (v : ℕ) (b : Bool) (cs : List ℕ) → join_all 8 b (map (λ (n : ℕ). F n v) cs) ≡ (b && all_pass (map F cs) v)
unfolding join_all join all_pass
and_all F v true [] = refl
and_all F v false [] = refl
and_all F v true (c ∷ cs) = and_all F v (F c v) cs
and_all F v false (c ∷ cs) = and_all F v false cs

-- a list of one
one_of : (cs : List ℕ) → length cs ≡ 1 → cs ≡ get_or cs 0 0 ∷ []
one_of [] e = absurd (omega arith)
one_of (c ∷ []) e = refl
one_of (c ∷ d ∷ cs) e = absurd (omega arith)

-- ---- a node whose kind is none of 2 to 6
pub record Joined (k : ℕ) : Type 0 where
  pub no_primitive : k ≡ 2 → ⊥
  pub no_list : k ≡ 4 → ⊥
  pub no_set : k ≡ 6 → ⊥
  pub no_var : k ≡ 3 → ⊥
  pub no_lambda : k ≡ 5 → ⊥

-- a kind without a number of its own and without fields has as many body words as children
counted : (t : Tag) (cs : List ℕ) → (data_of t).numbers ≡ [] → formed (node t cs) ≡ true → body_count (kind t) (data_of t).dynamic (length cs) ≡ true
counted t cs e g =
    let n : length (body (node t cs)) ≡ length cs = ap (λ (l : List ℕ). length (l ++ child_words (data_of t).fields cs)) e ∙ length_child_words (data_of t).fields cs in
    ap (body_count (kind t) (data_of t).dynamic) (sym n) ∙ (formed_parts t cs g).counted

opposite : (b : Bool) → xor true b ≡ not b
unfolding xor
opposite true = refl
opposite false = refl

module _ (f : Fix) (F : ℕ → Test) (v : ℕ) where
  abbrev joined : Tag → List ℕ → Bool
  joined t cs = join_all (disc (kind t)) (starts_full (disc (kind t))) (map (λ (n : ℕ). F n v) cs)

  joined_node : (t : Tag) (cs : List ℕ) → formed (node t cs) ≡ true → Joined (disc (kind t)) → joined t cs ≡ node_takes f t (map F cs) v
  unfolding node_takes starts_full join_all join body_count
  joined_node (members positive) cs e J = or_all F v false cs
  joined_node (members negative) cs e J = and_all F v true cs
  joined_node (bound positive) cs e J = let z : cs ≡ [] = nil cs (eqb-true (length cs) 0 (counted (bound positive) cs refl e)) in ap (joined (bound positive)) z
  joined_node (bound negative) cs e J = let z : cs ≡ [] = nil cs (eqb-true (length cs) 0 (counted (bound negative) cs refl e)) in ap (joined (bound negative)) z
  joined_node (var x) cs e J = absurd (J.no_var refl)
  joined_node neg cs e J =
      let z = one_of cs (eqb-true (length cs) 1 (counted neg cs refl e)) in
      ap (joined neg) z ∙ opposite (F (get_or cs 0 0) v) ∙ sym (λ i. not (first (map F (z i)) v))
  joined_node (form (primitive c)) cs e J = absurd (J.no_primitive refl)
  joined_node (form list) cs e J = absurd (J.no_list refl)
  joined_node (form lambda) cs e J = absurd (J.no_lambda refl)
  joined_node (form (attrset fs d o)) cs e J = absurd (J.no_set refl)
  joined_node (form (named m)) cs e J =
      let z = one_of cs (eqb-true (length cs) 1 (counted (form (named m)) cs refl e)) in ap (joined (form (named m))) z ∙ sym (λ i. first (map F (z i)) v)

  -- a variable and a lambda take nothing
  none_taken : (t : Tag) (cs : List ℕ) → (disc (kind t) ≡ 3) ⊎ (disc (kind t) ≡ 5) → false ≡ node_takes f t (map F cs) v
  unfolding node_takes
  none_taken (members positive) cs (inl e) = absurd (omega (arith, e))
  none_taken (members positive) cs (inr e) = absurd (omega (arith, e))
  none_taken (members negative) cs (inl e) = absurd (omega (arith, e))
  none_taken (members negative) cs (inr e) = absurd (omega (arith, e))
  none_taken (bound positive) cs e = refl
  none_taken (bound negative) cs (inl e) = absurd (omega (arith, e))
  none_taken (bound negative) cs (inr e) = absurd (omega (arith, e))
  none_taken (var x) cs e = refl
  none_taken neg cs (inl e) = absurd (omega (arith, e))
  none_taken neg cs (inr e) = absurd (omega (arith, e))
  none_taken (form (primitive c)) cs (inl e) = absurd (omega (arith, e))
  none_taken (form (primitive c)) cs (inr e) = absurd (omega (arith, e))
  none_taken (form list) cs (inl e) = absurd (omega (arith, e))
  none_taken (form list) cs (inr e) = absurd (omega (arith, e))
  none_taken (form lambda) cs e = refl
  none_taken (form (attrset fs d o)) cs (inl e) = absurd (omega (arith, e))
  none_taken (form (attrset fs d o)) cs (inr e) = absurd (omega (arith, e))
  none_taken (form (named m)) cs (inl e) = absurd (omega (arith, e))
  none_taken (form (named m)) cs (inr e) = absurd (omega (arith, e))

-- ---- the row of the node with these words
module _ (ws ps : List ℕ) (width : ℕ) (fix places : List ℕ) (count : ℕ) {k : ℕ} (e : k ≡ head_kind (get_or ws 0 0)) where
  -- the kind of the node that has them
  kind_of_words : (table nodes : ℕ) (x : Node) → well table nodes x ≡ true → ws ≡ encode x → k ≡ disc (kind (tag x))
  kind_of_words table nodes x g q = e ∙ ap (λ (y : List ℕ). head_kind (get_or y 0 0)) q ∙ kind_encode x (well_parts table nodes x g).formed_so

  pub row_nothing : (k ≡ 3) ⊎ (k ≡ 5) → RowOf ws ps width fix places count (replicate 16 0)
  row_nothing h = record {
    long = length-replicate {A = ℕ} 16 0;
    is = λ table nodes x g q t f F v l. has_none 16 v ∙ nothing x f v (subst (λ (n : ℕ). (n ≡ 3) ⊎ (n ≡ 5)) (kind_of_words table nodes x g q) h);
  }
    where
      nothing : (x : Node) (f : Fix) (v : ℕ) → (disc (kind (tag x)) ≡ 3) ⊎ (disc (kind (tag x)) ≡ 5) → false ≡ node_takes f (tag x) (map (pair ps width) (children x)) v
      nothing (node t cs) f v h = none_taken f (pair ps width) v t cs h

  pub row_var : k ≡ 3 → RowOf ws ps width fix places count (replicate 16 0)
  row_var h = row_nothing (inl h)

  pub row_lambda : k ≡ 5 → RowOf ws ps width fix places count (replicate 16 0)
  row_lambda h = row_nothing (inr h)

  module _ (A : Against ws ps width fix places count) {b : List ℕ} (B : ChildWords ws b) where
    own_children : (table nodes : ℕ) (x : Node) → well table nodes x ≡ true → ws ≡ encode x → map child b ≡ children x
    own_children table nodes x g q = B.is ∙ ap children_in q ∙ children_encode x (well_parts table nodes x g).formed_so

    pub body_rows : RowsOf b ps width
    unfolding child
    body_rows = record {
      each = λ i l.
          let N = A.node in
          let c = own_children N.table N.nodes N.node N.good N.words in
          subst (HasRow ps width) (sym (ap (λ (y : List ℕ). get_or y i 0) c) ∙ get_or-map child b i 0) (N.rows i (omega (arith, l, ap length c, length-map b child)));
    }

    pub row_joined : (k ≡ 2 → ⊥) → (k ≡ 4 → ⊥) → (k ≡ 6 → ⊥) → (k ≡ 3 → ⊥) → (k ≡ 5 → ⊥) → {r : List ℕ} → JoinsAll k b ps width r → RowOf ws ps width fix places count r
    row_joined p l s y m {r} J = record {
      long = J.long;
      is = λ table nodes x g q t f F v h. J.is v (omega (arith, h, A.wide)) A.narrow
          ∙ (λ i. join_all (kind_of_words table nodes x g q i) (starts_full (kind_of_words table nodes x g q i)) (map (λ (n : ℕ). pair ps width n v) (own_children table nodes x g q i)))
          ∙ go f v x (well_parts table nodes x g).formed_so (subst Joined (kind_of_words table nodes x g q) (record { no_primitive = p; no_list = l; no_set = s; no_var = y; no_lambda = m }));
    }
      where
        go : (f : Fix) (v : ℕ) (x : Node) → formed x ≡ true → Joined (disc (kind (tag x)))
            → join_all (disc (kind (tag x))) (starts_full (disc (kind (tag x)))) (map (λ (n : ℕ). pair ps width n v) (children x)) ≡ node_takes f (tag x) (map (pair ps width) (children x)) v
        go f v (node t cs) = joined_node f (pair ps width) v t cs
