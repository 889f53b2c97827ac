-- The words of a node in both layouts: they differ in field words alone, and are the same where all names are 0. An old field word is the new
-- one of a name 256 times as high, so that today's rules read an old node as one with such names.
use Prim.Native.Nat.{ℕ, ◌+◌, ◌*◌, ◌^◌, ◌≤◌}
use mathlib.Core.Path.{◌≡◌, refl, sym, ap, ◌∙◌}
use mathlib.Core.Bool.{Bool, true, false, ◌&&◌}
use mathlib.Core.List.{List, [], ◌∷◌, ◌++◌, map}
use native.Mathlib.Omega.{arith}
use lib.ListN.{length, length-map}
use lib.Dec.{eqb, ltb}
use borrow.Author.Tests.{lt-ltb, le-ltb, ltb-false}
use Rattle.words.specs.Words.{bit, head_word, field_word}
use Rattle.words.specs.declared.Layout.TheVariants as layout
use Rattle.words.proofs.Words.{old_is_new}
use Rattle.std.specs.Prelude.{Err}
use Rattle.types.specs.declared.refusal.Refusal.TheVariants as refusal
use Rattle.types.specs.Kind.{body_count}
use Rattle.types.specs.Node.{Field, field, primitive, list, lambda, attrset, named, Tag, members, bound, var, neg, form, Node, node, tag, children, kind, data_of, field_names, names, child_words_in, child_words, head_of, encode_in, encode, below, formed_in, linked, well, decode}
use Rattle.types.proofs.Tests.{true_false, and_true, both}
use Rattle.types.proofs.Lists.{below_cons, below_more}
use Rattle.types.proofs.Nodes.{cons, length_child_words, Formed, FormedIn, formed_parts, formed_parts_in, parts_formed, parts_formed_in, formed_today}
use Rattle.types.proofs.Decodes.{well_parts, decode_four_in}
use Rattle.sheet_converting.specs.Theorems.{kept, Words, none, more}
use Rattle.sheet_converting.specs.Theorems as changed

-- ---- only field words differ
all_kept : (ws : List ℕ) → Words ws ws
all_kept [] = none
all_kept (w ∷ ws) = more kept (all_kept ws)

pub join : {u v x y : List ℕ} → Words u v → Words x y → Words (u ++ x) (v ++ y)
join none X = X
join (more W U) X = more W (join U X)

children_change : (fs : List Field) (cs : List ℕ) → below (2 ^ 8) (field_names fs) ≡ true → below (2 ^ 12) cs ≡ true → Words (child_words_in layout.Old fs cs) (child_words fs cs)
unfolding child_words_in
children_change [] cs n e = all_kept cs
children_change (f ∷ fs) [] n e = none
children_change (field o m ∷ fs) (c ∷ cs) n e =
    let p = below_cons (2 ^ 12) c cs e in
    let q = below_cons (2 ^ 8) m (field_names fs) n in
    more (changed.field o m c q.0 p.0) (children_change fs cs q.1 p.1)

pub node_changes : (x : Node) → formed_in layout.Old x ≡ true → Words (encode_in layout.Old x) (encode x)
unfolding encode_in
node_changes (node t cs) e =
    let F = formed_parts_in layout.Old t cs e in
    more kept (join (all_kept (data_of t).numbers) (children_change (data_of t).fields cs F.few_names F.few_nodes))

-- ---- under a table of at most 256 names a node is formed in the old layout too
pub formed_old : (table nodes : ℕ) (x : Node) → table ≤ 256 → well table nodes x ≡ true → formed_in layout.Old x ≡ true
unfolding linked
formed_old table nodes (node t cs) h e =
    let W = well_parts table nodes (node t cs) e in
    let F = formed_parts t cs W.formed_so in
    let l = and_true (below nodes cs) (below table (names t)) W.linked_so in
    parts_formed_in layout.Old t cs (record {
      counted = F.counted;
      matches = F.matches;
      own = F.own;
      few_names = below_more table (2 ^ 8) (names t) h l.1;
      few_nodes = F.few_nodes;
    })

-- ---- where all names are 0 both layouts have the same words
children_same : (fs : List Field) (cs : List ℕ) → below 1 (field_names fs) ≡ true → child_words_in layout.Old fs cs ≡ child_words fs cs
unfolding child_words_in
children_same [] cs e = refl
children_same (f ∷ fs) [] e = refl
children_same (field o m ∷ fs) (c ∷ cs) e =
    let p = below_cons 1 m (field_names fs) e in
    let z : 256 * m ≡ m = omega (arith, p.0) in
    cons (old_is_new o m c ∙ ap (λ (n : ℕ). field_word o n c) z) (children_same fs cs p.1)

pub node_same : (x : Node) → below 1 (names (tag x)) ≡ true → encode_in layout.Old x ≡ encode x
unfolding encode_in
node_same (node t cs) e = ap (λ (ws : List ℕ). head_of (node t cs) ∷ ((data_of t).numbers ++ ws)) (children_same (data_of t).fields cs e)

-- ---- the node that today's rules read in old words
high_field : Field → Field
high_field (field o n) = field o (256 * n)

high_tag : Tag → Tag
high_tag (members k) = members k
high_tag (bound k) = bound k
high_tag (var v) = var v
high_tag neg = neg
high_tag (form (primitive c)) = form (primitive c)
high_tag (form list) = form list
high_tag (form lambda) = form lambda
high_tag (form (attrset fs d o)) = form (attrset (map high_field fs) d o)
high_tag (form (named n)) = form (named (256 * n))

children_high : (fs : List Field) (cs : List ℕ) → child_words_in layout.Old fs cs ≡ child_words (map high_field fs) cs
unfolding child_words_in high_field
children_high [] cs = refl
children_high (f ∷ fs) [] = refl
children_high (field o m ∷ fs) (c ∷ cs) = cons (old_is_new o m c) (children_high fs cs)

set_length : (fs : List Field) (cs : List ℕ) → length (child_words fs cs) ≡ length (child_words (map high_field fs) cs)
set_length fs cs = length_child_words fs cs ∙ sym (length_child_words (map high_field fs) cs)

words_high : (x : Node) → encode_in layout.Old x ≡ encode (node (high_tag (tag x)) (children x))
unfolding encode_in head_of high_tag high_field child_words_in
words_high (node (members k) cs) = refl
words_high (node (bound k) cs) = refl
words_high (node (var v) cs) = refl
words_high (node neg cs) = refl
words_high (node (form (primitive c)) cs) = refl
words_high (node (form list) cs) = refl
words_high (node (form lambda) cs) = refl
words_high (node (form (attrset fs d o)) cs) = cons (ap (head_word 6 o d) (set_length fs cs)) (children_high fs cs)
words_high (node (form (named n)) cs) = cons (ap (head_word 9 false false) (set_length (field false n ∷ []) cs)) (children_high (field false n ∷ []) cs)

high_few : (fs : List Field) → below (2 ^ 8) (field_names fs) ≡ true → below (2 ^ 16) (field_names (map high_field fs)) ≡ true
unfolding below high_field
high_few [] e = refl
high_few (field o n ∷ fs) e =
    let p = below_cons (2 ^ 8) n (field_names fs) e in
    both (lt-ltb (256 * n) (2 ^ 16) (omega (arith, p.0))) (high_few fs p.1)

module _ (t : Tag) (cs : List ℕ) (F : FormedIn layout.Old t cs) where
  today : Formed t cs
  today = formed_parts t cs (formed_today layout.Old (node t cs) (parts_formed_in layout.Old t cs F))

high_formed : (t : Tag) (cs : List ℕ) → FormedIn layout.Old t cs → Formed (high_tag t) cs
unfolding high_tag high_field
high_formed (members k) cs F = today (members k) cs F
high_formed (bound k) cs F = today (bound k) cs F
high_formed (var v) cs F = today (var v) cs F
high_formed neg cs F = today neg cs F
high_formed (form (primitive c)) cs F = today (form (primitive c)) cs F
high_formed (form list) cs F = today (form list) cs F
high_formed (form lambda) cs F = today (form lambda) cs F
high_formed (form (attrset fs d o)) cs F = record {
  counted = ap (body_count (kind (form (attrset fs d o))) d) (sym (set_length fs cs)) ∙ F.counted;
  matches = ap (λ (n : ℕ). eqb (length cs) (n + bit d)) (length-map fs high_field) ∙ F.matches;
  own = F.own;
  few_names = high_few fs F.few_names;
  few_nodes = F.few_nodes;
}
high_formed (form (named n)) cs F = record {
  counted = ap (body_count (kind (form (named n))) false) (sym (set_length (field false n ∷ []) cs)) ∙ F.counted;
  matches = F.matches;
  own = F.own;
  few_names = high_few (field false n ∷ []) F.few_names;
  few_nodes = F.few_nodes;
}

and_false : (x : Bool) {y : Bool} → y ≡ false → (x && y) ≡ false
and_false true e = e
and_false false e = refl

-- a name above 0 becomes one that no table of at most 256 names has
high_missing : (table : ℕ) (fs : List Field) → table ≤ 256 → below 1 (field_names fs) ≡ false → below table (field_names (map high_field fs)) ≡ false
unfolding below high_field
high_missing table [] h e = absurd (true_false e)
high_missing table (field o n ∷ fs) h e = go (ltb n 1) refl (λ q. high_missing table fs h q)
  where
    go : (b : Bool) → ltb n 1 ≡ b → (below 1 (field_names fs) ≡ false → below table (field_names (map high_field fs)) ≡ false) → below table (field_names (map high_field (field o n ∷ fs))) ≡ false
    go true q rest = and_false (ltb (256 * n) table) (rest (sym (ap (λ (x : Bool). x && below 1 (field_names fs)) q) ∙ e))
    go false q rest = ap (λ (x : Bool). x && below table (field_names (map high_field fs))) (le-ltb (256 * n) table (omega (arith, h, ltb-false n 1 q)))

high_unlinked : (table nodes : ℕ) (t : Tag) (cs : List ℕ) → table ≤ 256 → below 1 (names t) ≡ false → linked table nodes (node (high_tag t) cs) ≡ false
unfolding linked high_tag high_field below
high_unlinked table nodes (members k) cs h e = absurd (true_false e)
high_unlinked table nodes (bound k) cs h e = absurd (true_false e)
high_unlinked table nodes (var v) cs h e = absurd (true_false e)
high_unlinked table nodes neg cs h e = absurd (true_false e)
high_unlinked table nodes (form (primitive c)) cs h e = absurd (true_false e)
high_unlinked table nodes (form list) cs h e = absurd (true_false e)
high_unlinked table nodes (form lambda) cs h e = absurd (true_false e)
high_unlinked table nodes (form (attrset fs d o)) cs h e = and_false (below nodes cs) (high_missing table fs h e)
high_unlinked table nodes (form (named n)) cs h e = and_false (below nodes cs) (high_missing table (field false n ∷ []) h e)

-- so today's rules refuse the old words of a node with a name above 0 by 4
pub decode_high : (table nodes : ℕ) (x : Node) → table ≤ 256 → formed_in layout.Old x ≡ true → below 1 (names (tag x)) ≡ false → decode table nodes (encode_in layout.Old x) ≡ Err refusal.OutOfRange
decode_high table nodes (node t cs) h e n =
    decode_four_in layout.New table nodes (encode_in layout.Old (node t cs)) (node (high_tag t) cs)
    (parts_formed (high_tag t) cs (high_formed t cs (formed_parts_in layout.Old t cs e)))
    (words_high (node t cs))
    (high_unlinked table nodes t cs h n)
