-- On the words of formed nodes the order of words is node order: the words hold the node's keys.
use Prim.Native.Nat.{ℕ, ◌+◌, ◌-◌, ◌^◌, ◌≤◌}
use mathlib.Core.Path.{◌≡◌, refl, ap, ap₂, ◌∙◌}
use mathlib.Core.Bool.{true, false}
use mathlib.Core.List.{List, [], ◌∷◌, ◌++◌, map}
use native.Mathlib.Omega.{arith}
use lib.ListN.{length, take, drop}
use borrow.Author.Tests.{eqb-true}
use Rattle.words.specs.declared.Layout.TheVariants as layout
use Rattle.words.specs.Words.{bit, FieldFits}
use Rattle.types.specs.Kind.{disc, body_count}
use Rattle.types.specs.Node.{positive, negative, Field, field, primitive, list, lambda, attrset, named, Tag, members, bound, var, neg, form, Node, node, kind, data_of, field_names, child_words, child_words_in, body, head_of, encode, encode_in, below, formed}
use Rattle.types.proofs.Lists.{below_cons}
use Rattle.types.proofs.Nodes.{cons, Formed, formed_parts, length_child_words, fields_back, encode_kind, encode_open, encode_dynamic}
use Rattle.words.proofs.Words.{field_made}
use Rattle.node_order.specs.NodeOrder.{entries, optional_names, keys_order, node_keys, node_order}
use Rattle.node_order.specs.WordsOrder.{entry_of, optional_in, field_count, part_keys, word_keys, words_order}
use Rattle.node_order.specs.Theorems.{WordsOrderEncode}

-- ---- the field words and the other words of a body
entries_back : (fs : List Field) (cs : List ℕ) → below (2 ^ 16) (field_names fs) ≡ true → below (2 ^ 12) cs ≡ true → length fs ≤ length cs → map entry_of (take (length fs) (child_words fs cs)) ≡ entries fs cs
unfolding child_words_in entries
entries_back [] cs n e l = refl
entries_back (f ∷ fs) [] n e l = absurd (omega arith)
entries_back (field o m ∷ fs) (c ∷ cs) n e l =
    let p = below_cons (2 ^ 12) c cs e in
    let q = below_cons (2 ^ 16) m (field_names fs) n in
    let fits : FieldFits m c = record { few_names = q.0; few_nodes = p.0 } in
    cons (λ i. record { name = (field_made layout.New o m c fits).name_back i; child = (field_made layout.New o m c fits).child_back i }) (entries_back fs cs q.1 p.1 (omega arith))

others_back : (fs : List Field) (cs : List ℕ) → drop (length fs) (child_words fs cs) ≡ drop (length fs) cs
unfolding child_words_in
others_back [] cs = refl
others_back (f ∷ fs) [] = refl
others_back (field o n ∷ fs) (c ∷ cs) = others_back fs cs

-- of the body words b the first n stand for the fields fs of the children cs, and the others are os
record Spread (fs : List Field) (cs os b : List ℕ) (n : ℕ) : Type 0 where
  fielded : map entry_of (take n b) ≡ entries fs cs
  rest : drop n b ≡ os
  optional : optional_in (take n b) ≡ optional_names fs

spread_fields : (fs : List Field) (cs : List ℕ) → below (2 ^ 16) (field_names fs) ≡ true → below (2 ^ 12) cs ≡ true → length fs ≤ length cs → Spread fs cs (drop (length fs) cs) (child_words fs cs) (length fs)
unfolding optional_in
spread_fields fs cs n e l = record { fielded = entries_back fs cs n e l; rest = others_back fs cs; optional = ap optional_names (fields_back fs cs n e l) }

spread_none : (cs b : List ℕ) → Spread [] cs b b 0
unfolding entries optional_in
spread_none cs b = record { fielded = refl; rest = refl; optional = refl }

spread : (t : Tag) (cs : List ℕ) → Formed t cs
    → Spread (data_of t).fields cs ((data_of t).numbers ++ drop (length (data_of t).fields) cs) (body (node t cs)) (field_count (disc (kind t)) (data_of t).dynamic (length (body (node t cs))))
unfolding field_count child_words_in body_count
spread (members positive) cs F = spread_none cs cs
spread (members negative) cs F = spread_none cs cs
spread (bound positive) cs F = spread_none cs cs
spread (bound negative) cs F = spread_none cs cs
spread (var v) cs F = spread_none cs (v ∷ cs)
spread neg cs F = spread_none cs cs
spread (form (primitive c)) cs F = spread_none cs (c ∷ cs)
spread (form list) cs F = spread_none cs cs
spread (form lambda) cs F = spread_none cs cs
spread (form (attrset fs d o)) cs F =
    let l : length cs ≡ length fs + bit d = eqb-true (length cs) (length fs + bit d) F.matches in
    let k : length (child_words fs cs) - bit d ≡ length fs = omega (arith, length_child_words fs cs) in
    rw k (spread_fields fs cs F.few_names F.few_nodes (omega arith))
spread (form (named n)) cs F =
    let k : length (child_words (field false n ∷ []) cs) ≡ 1 = eqb-true _ 1 F.counted in
    rw k (spread_fields (field false n ∷ []) cs F.few_names F.few_nodes (omega (arith, length_child_words (field false n ∷ []) cs)))

-- ---- the theorem
encode_keys : (x : Node) → formed x ≡ true → word_keys (encode x) ≡ node_keys x
unfolding word_keys encode_in node_keys
encode_keys (node t cs) e =
    let x = node t cs in
    let S = spread t cs (formed_parts t cs e) in
    (λ i. part_keys (head_of x) (take (field_count (encode_kind x e i) (encode_dynamic x e i) (length (body x))) (body x)) (drop (field_count (encode_kind x e i) (encode_dynamic x e i) (length (body x))) (body x)))
    ∙ (λ i. record { kind = encode_kind x e i; entries = S.fielded i; others = S.rest i; opened = bit (encode_open x e i); optional = S.optional i })

pub words_order_encode : {a b : List ℕ} → WordsOrderEncode a b
unfolding words_order node_order
words_order_encode x y p q d e = ap₂ words_order d e ∙ ap₂ keys_order (encode_keys x p) (encode_keys y q)
