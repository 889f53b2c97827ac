-- A formed node and its words say the same: each field of the words reads back, and so does the node.
use Prim.Native.Nat.{ℕ, suc, ◌+◌, ◌-◌, ◌^◌, ◌≤◌}
use mathlib.Core.Path.{◌≡◌, refl, sym, ap, ◌∙◌}
use mathlib.Core.Bool.{Bool, true, false}
use mathlib.Core.List.{List, [], ◌∷◌, map}
use mathlib.Core.Option.{Option}
use native.Mathlib.Omega.{arith}
use lib.ListN.{length, take, length-append}
use lib.Dec.{leb}
use borrow.Author.Tests.{eqb-true, leb-true}
use Rattle.words.specs.Words.{bit, head_kind, head_open, head_dynamic, head_zero, head_count, HeadFits, name_bits, FieldFitsIn, child}
use Rattle.words.specs.declared.Layout.{Layout}
use Rattle.words.specs.declared.Layout.TheVariants as layout
use Rattle.types.specs.Kind as kinds
use Rattle.types.specs.Kind.{Kind, disc, kind_of, body_count, body_of}
use Rattle.types.specs.Node.{positive, negative, Field, field, primitive, list, lambda, attrset, named, Tag, members, bound, var, neg, form, Node, node, tag, kind, data_of, field_names, names, child_words_in, child_words, body_in, body, head_of, encode_in, encode, below, matched, formed_in, formed, field_of_in, field_of, tag_of_in, children_of, guess_kind_in, guess_in}
use Rattle.types.specs.Theorems.{GuessEncode}
use Rattle.types.proofs.Tests.{and_true, both}
use Rattle.types.proofs.Lists.{below_cons, below_more}
use Rattle.types.proofs.KindNumbers.{kind_of_disc, disc_small}
use Rattle.words.proofs.Words.{head_made, field_made, child_zero_made, child_of_fields}

pub nil : (cs : List ℕ) → length cs ≡ 0 → cs ≡ []
nil [] e = refl
nil (c ∷ cs) e = absurd (omega arith)

pub cons : {A : Type 0} {x y : A} {s t : List A} → x ≡ y → s ≡ t → Path (List A) (x ∷ s) (y ∷ t)
cons p q = λ i. p i ∷ q i

pub few_words : (k : Kind) (d : Bool) (n : ℕ) → body_count k d n ≡ true → n ≤ 65
unfolding body_count
few_words kinds.bottom d n e = omega (arith, eqb-true n 0 e)
few_words kinds.top d n e = omega (arith, eqb-true n 0 e)
few_words kinds.primitive d n e = omega (arith, eqb-true n 1 e)
few_words kinds.ty_var d n e = omega (arith, eqb-true n 1 e)
few_words kinds.list d n e = omega (arith, eqb-true n 1 e)
few_words kinds.lambda d n e = omega (arith, eqb-true n 2 e)
few_words kinds.attr_set true n e = leb-true n 65 (and_true (leb 1 n) _ e).1
few_words kinds.attr_set false n e = omega (arith, leb-true n 64 (and_true (leb 0 n) _ e).1)
few_words kinds.union d n e = omega (arith, leb-true n 64 (and_true (leb 1 n) _ e).1)
few_words kinds.intersection d n e = omega (arith, leb-true n 64 (and_true (leb 1 n) _ e).1)
few_words kinds.named d n e = omega (arith, eqb-true n 1 e)
few_words kinds.neg d n e = omega (arith, eqb-true n 1 e)

-- ---- body words that hold children
pub length_child_words_in : (l : Layout) (fs : List Field) (cs : List ℕ) → length (child_words_in l fs cs) ≡ length cs
unfolding child_words_in
length_child_words_in l [] cs = refl
length_child_words_in l (f ∷ fs) [] = refl
length_child_words_in l (field o n ∷ fs) (c ∷ cs) = ap suc (length_child_words_in l fs cs)

module _ (l : Layout) where
  pub children_back_in : (fs : List Field) (cs : List ℕ) → below (2 ^ name_bits l) (field_names fs) ≡ true → below (2 ^ 12) cs ≡ true → map child (child_words_in l fs cs) ≡ cs
  unfolding child_words_in
  children_back_in [] [] n e = refl
  children_back_in [] (c ∷ cs) n e =
      let p = below_cons (2 ^ 12) c cs e in cons (child_of_fields c (child_zero_made c p.0)) (children_back_in [] cs n p.1)
  children_back_in (f ∷ fs) [] n e = refl
  children_back_in (field o m ∷ fs) (c ∷ cs) n e =
      let p = below_cons (2 ^ 12) c cs e in
      let q = below_cons (2 ^ name_bits l) m (field_names fs) n in
      cons (field_made l o m c (record { few_names = q.0; few_nodes = p.0 })).child_back (children_back_in fs cs q.1 p.1)

  pub fields_back_in : (fs : List Field) (cs : List ℕ) → below (2 ^ name_bits l) (field_names fs) ≡ true → below (2 ^ 12) cs ≡ true → length fs ≤ length cs → map (field_of_in l) (take (length fs) (child_words_in l fs cs)) ≡ fs
  unfolding child_words_in
  fields_back_in [] cs n e h = refl
  fields_back_in (f ∷ fs) [] n e h = absurd (omega arith)
  fields_back_in (field o m ∷ fs) (c ∷ cs) n e h =
      let p = below_cons (2 ^ 12) c cs e in
      let q = below_cons (2 ^ name_bits l) m (field_names fs) n in
      let fits : FieldFitsIn l m c = record { few_names = q.0; few_nodes = p.0 } in
      cons (λ i. field ((field_made l o m c fits).optional_back i) ((field_made l o m c fits).name_back i)) (fields_back_in fs cs q.1 p.1 (omega arith))

  -- ---- what `formed_in` says, part by part
  pub record FormedIn (t : Tag) (cs : List ℕ) : Type 0 where
    pub counted : body_count (kind t) (data_of t).dynamic (length (body (node t cs))) ≡ true
    pub matches : matched t (length cs) ≡ true
    pub own : below (data_of t).limit (data_of t).numbers ≡ true
    pub few_names : below (2 ^ name_bits l) (names t) ≡ true
    pub few_nodes : below (2 ^ 12) cs ≡ true

  pub formed_parts_in : (t : Tag) (cs : List ℕ) → formed_in l (node t cs) ≡ true → FormedIn t cs
  unfolding formed_in
  formed_parts_in t cs e =
      let p1 = and_true (body_count (kind t) (data_of t).dynamic (length (body (node t cs)))) _ e in
      let p2 = and_true (matched t (length cs)) _ p1.1 in
      let p3 = and_true (below (data_of t).limit (data_of t).numbers) _ p2.1 in
      let p4 = and_true (below (2 ^ name_bits l) (names t)) _ p3.1 in
      record { counted = p1.0; matches = p2.0; own = p3.0; few_names = p4.0; few_nodes = p4.1 }

  pub parts_formed_in : (t : Tag) (cs : List ℕ) → FormedIn t cs → formed_in l (node t cs) ≡ true
  unfolding formed_in
  parts_formed_in t cs F = both F.counted (both F.matches (both F.own (both F.few_names F.few_nodes)))

  -- ---- the head of a formed node
  pub length_body : (x : Node) → length (body_in l x) ≡ length (body x)
  length_body (node t cs) =
      let own = (data_of t).numbers in
      let fs = (data_of t).fields in
      omega (
        arith,
        length-append own (child_words_in l fs cs),
        length-append own (child_words fs cs),
        length_child_words_in l fs cs,
        length_child_words_in layout.New fs cs,
      )

  pub length_encode_in : (x : Node) → length (encode_in l x) ≡ suc (length (body x))
  unfolding encode_in
  length_encode_in x = ap suc (length_body x)

  module _ (x : Node) (e : formed_in l x ≡ true) where
    few_body : length (body x) ≤ 65
    few_body = go x e
      where
        go : (x : Node) → formed_in l x ≡ true → length (body x) ≤ 65
        go (node t cs) e = few_words (kind t) (data_of t).dynamic _ (formed_parts_in t cs e).counted

    fit : HeadFits (disc (kind (tag x))) (length (body x))
    fit = record { few_kinds = omega (arith, disc_small (kind (tag x))); few_words = omega (arith, few_body) }

    pub encode_kind_in : head_kind (head_of x) ≡ disc (kind (tag x))
    unfolding head_of
    encode_kind_in = (head_made _ _ _ _ fit).kind_back

    pub encode_open_in : head_open (head_of x) ≡ (data_of (tag x)).opened
    unfolding head_of
    encode_open_in = (head_made _ _ _ _ fit).open_back

    pub encode_dynamic_in : head_dynamic (head_of x) ≡ (data_of (tag x)).dynamic
    unfolding head_of
    encode_dynamic_in = (head_made _ _ _ _ fit).dynamic_back

    pub encode_zero_in : head_zero (head_of x) ≡ 0
    unfolding head_of
    encode_zero_in = (head_made _ _ _ _ fit).zero_back

    pub encode_count_in : head_count (head_of x) ≡ length (body x)
    unfolding head_of
    encode_count_in = (head_made _ _ _ _ fit).count_back

  -- ---- the node again
  own_back : (cs : List ℕ) → length cs ≡ 0 → [] ≡ cs
  own_back cs e = sym (nil cs e)

  node_back : (t : Tag) (cs : List ℕ) → FormedIn t cs → node (tag_of_in l (kind t) (data_of t).opened (data_of t).dynamic (body_in l (node t cs))) (children_of (body_of (kind t)) (body_in l (node t cs))) ≡ node t cs
  unfolding tag_of_in children_of body_count child_words_in
  node_back (members positive) cs F = ap (node (members positive)) (children_back_in [] cs F.few_names F.few_nodes)
  node_back (members negative) cs F = ap (node (members negative)) (children_back_in [] cs F.few_names F.few_nodes)
  node_back (bound positive) cs F = ap (node (bound positive)) (own_back cs (eqb-true (length cs) 0 F.counted))
  node_back (bound negative) cs F = ap (node (bound negative)) (own_back cs (eqb-true (length cs) 0 F.counted))
  node_back (var v) cs F = ap (node (var v)) (own_back cs (omega (arith, eqb-true (suc (length cs)) 1 F.counted)))
  node_back neg cs F = ap (node neg) (children_back_in [] cs F.few_names F.few_nodes)
  node_back (form (primitive c)) cs F = ap (node (form (primitive c))) (own_back cs (omega (arith, eqb-true (suc (length cs)) 1 F.counted)))
  node_back (form list) cs F = ap (node (form list)) (children_back_in [] cs F.few_names F.few_nodes)
  node_back (form lambda) cs F = ap (node (form lambda)) (children_back_in [] cs F.few_names F.few_nodes)
  node_back (form (attrset fs d o)) cs F =
      let q : length cs ≡ length fs + bit d = eqb-true (length cs) (length fs + bit d) F.matches in
      let k : length (child_words_in l fs cs) - bit d ≡ length fs = omega (arith, length_child_words_in l fs cs) in
      let f : map (field_of_in l) (take (length (child_words_in l fs cs) - bit d) (child_words_in l fs cs)) ≡ fs
      = ap (λ (i : ℕ). map (field_of_in l) (take i (child_words_in l fs cs))) k ∙ fields_back_in fs cs F.few_names F.few_nodes (omega arith) in
      λ i. node (form (attrset (f i) d o)) (children_back_in fs cs F.few_names F.few_nodes i)
  node_back (form (named n)) [] F = absurd (omega (arith, eqb-true 0 1 F.counted))
  node_back (form (named n)) (c ∷ cs) F =
      let p = below_cons (2 ^ 12) c cs F.few_nodes in
      let q = below_cons (2 ^ name_bits l) n [] F.few_names in
      let m = (field_made l false n c (record { few_names = q.0; few_nodes = p.0 })).name_back in
      λ i. node (form (named (m i))) (children_back_in (field false n ∷ []) (c ∷ cs) F.few_names F.few_nodes i)

  pub guess_encode_in : GuessEncode l
  unfolding guess_in encode_in
  guess_encode_in (node t cs) e =
      let x = node t cs in
      (λ i. guess_kind_in l (kind_of (encode_kind_in x e i)) (encode_open_in x e i) (encode_dynamic_in x e i) (body_in l x))
      ∙ ap (λ (k : Option Kind). guess_kind_in l k (data_of t).opened (data_of t).dynamic (body_in l x)) (kind_of_disc (kind t))
      ∙ node_back t cs (formed_parts_in t cs e)

  pub encode_injective_in : (x y : Node) → formed_in l x ≡ true → formed_in l y ≡ true → encode_in l x ≡ encode_in l y → x ≡ y
  encode_injective_in x y p q e = sym (guess_encode_in x p) ∙ ap (guess_in l) e ∙ guess_encode_in y q

-- ---- the same of today's layout
abbrev pub Formed : Tag → List ℕ → Type 0
Formed = FormedIn layout.New

pub formed_parts : (t : Tag) (cs : List ℕ) → formed (node t cs) ≡ true → Formed t cs
formed_parts = formed_parts_in layout.New

pub parts_formed : (t : Tag) (cs : List ℕ) → Formed t cs → formed (node t cs) ≡ true
parts_formed = parts_formed_in layout.New

pub length_child_words : (fs : List Field) (cs : List ℕ) → length (child_words fs cs) ≡ length cs
length_child_words = length_child_words_in layout.New

pub fields_back : (fs : List Field) (cs : List ℕ) → below (2 ^ 16) (field_names fs) ≡ true → below (2 ^ 12) cs ≡ true → length fs ≤ length cs → map field_of (take (length fs) (child_words fs cs)) ≡ fs
fields_back = fields_back_in layout.New

pub length_encode : (x : Node) → length (encode x) ≡ suc (length (body x))
length_encode = length_encode_in layout.New

module _ (x : Node) (e : formed x ≡ true) where
  pub encode_kind : head_kind (head_of x) ≡ disc (kind (tag x))
  encode_kind = encode_kind_in layout.New x e

  pub encode_open : head_open (head_of x) ≡ (data_of (tag x)).opened
  encode_open = encode_open_in layout.New x e

  pub encode_dynamic : head_dynamic (head_of x) ≡ (data_of (tag x)).dynamic
  encode_dynamic = encode_dynamic_in layout.New x e

  pub encode_count : head_count (head_of x) ≡ length (body x)
  encode_count = encode_count_in layout.New x e

pub guess_encode : GuessEncode layout.New
guess_encode = guess_encode_in layout.New

pub encode_injective : (x y : Node) → formed x ≡ true → formed y ≡ true → encode x ≡ encode y → x ≡ y
encode_injective = encode_injective_in layout.New

-- a node that is formed in either layout is formed in today's
pub formed_today : (l : Layout) (x : Node) → formed_in l x ≡ true → formed x ≡ true
formed_today layout.New x e = e
formed_today layout.Old (node t cs) e =
    let F = formed_parts_in layout.Old t cs e in
    parts_formed t cs (record {
      counted = F.counted;
      matches = F.matches;
      own = F.own;
      few_names = below_more (2 ^ 8) (2 ^ 16) (names t) (omega arith) F.few_names;
      few_nodes = F.few_nodes;
    })
