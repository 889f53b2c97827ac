-- What the words of a primitive, a list or a set say, as the program reads them: which node they are, and a row for each child in them.
use Prim.Native.Nat.{ℕ, ◌-◌, ◌≤◌, ◌<◌}
use mathlib.Core.Path.{◌≡◌, refl, sym, ap, ◌∙◌, subst}
use mathlib.Core.Bool.{true}
use mathlib.Core.List.{List, [], ◌∷◌, map}
use mathlib.Core.Option.{Option}
use native.Mathlib.Omega.{arith}
use lib.ListN.{length, get_or, take, drop, length-drop, length-map, get_or-map}
use lib.Seq.{get_or-drop}
use lib.Dec.{leb}
use borrow.Author.Tests.{eqb-true, leb-true}
use Rattle.words.specs.Words.{bit, head_kind, head_open, head_dynamic, field_name, child}
use Rattle.words.specs.declared.Layout.TheVariants as layout
use Rattle.types.specs.Kind as kinds
use Rattle.types.specs.Kind.{Kind, disc, kind_of, body_count, body_of}
use Rattle.types.specs.Node.{Node, node, tag, children, kind, data_of, field_names, body, encode, rising, well, formed, field_of, guess, guess_in, guess_kind_in, tag_of, tag_of_in, children_of}
use Rattle.types.proofs.KindNumbers.{kind_of_disc}
use Rattle.types.proofs.Tests.{and_true}
use Rattle.types.proofs.Nodes.{cons, length_encode, guess_encode, formed_parts}
use Rattle.types.proofs.Decodes.{well_parts}
use Rattle.fitting.specs.Inner.Rows.{HasRow}
use Rattle.fitting.specs.Inner.Sets.{Risen}
use Rattle.fitting.specs.Inner.Taken.{NodeIn}

-- the node that words of this kind are
abbrev pub read_node : Kind → List ℕ → Node
read_node k ws = node (tag_of k (head_open (get_or ws 0 0)) (head_dynamic (get_or ws 0 0)) (drop 1 ws)) (children_of (body_of k) (drop 1 ws))

pub node_read : (ws : List ℕ) (x : Node) → formed x ≡ true → ws ≡ encode x → (k : Kind) → head_kind (get_or ws 0 0) ≡ disc k → x ≡ read_node k ws
unfolding guess_in
node_read [] x e q k p = absurd (omega (arith, ap length q, length_encode x))
node_read (h ∷ b) x e q k p =
    sym (guess_encode x e) ∙ ap guess (sym q)
    ∙ ap (λ (o : Option Kind). guess_kind_in layout.New o (head_open h) (head_dynamic h) b) (ap kind_of p ∙ kind_of_disc k)

fields_named : (ws : List ℕ) → field_names (map field_of ws) ≡ map field_name ws
fields_named [] = refl
fields_named (w ∷ ws) = cons refl (fields_named ws)

module _ {ws ps : List ℕ} {width : ℕ} (N : NodeIn ws ps width) where
  pub node_some : 0 < length ws
  node_some = omega (arith, ap length N.words, length_encode N.node)

  module _ (k : Kind) (p : head_kind (get_or ws 0 0) ≡ disc k) where
    is_read : N.node ≡ read_node k ws
    is_read = node_read ws N.node (well_parts N.table N.nodes N.node N.good).formed_so N.words k p

    good_read : well N.table N.nodes (read_node k ws) ≡ true
    good_read = ap (well N.table N.nodes) (sym is_read) ∙ N.good

    long_read : length (drop 1 ws) ≡ length (body (read_node k ws))
    long_read = omega (arith, length-drop 1 ws, ap length (N.words ∙ ap encode is_read), length_encode (read_node k ws))

    counted : body_count (kind (tag (read_node k ws))) (data_of (tag (read_node k ws))).dynamic (length (drop 1 ws)) ≡ true
    counted =
        ap (body_count (kind (tag (read_node k ws))) (data_of (tag (read_node k ws))).dynamic) long_read
        ∙ (formed_parts (tag (read_node k ws)) (children (read_node k ws)) (well_parts N.table N.nodes (read_node k ws) good_read).formed_so).counted

    rows_read : (i : ℕ) → i < length (children (read_node k ws)) → HasRow ps width (get_or (children (read_node k ws)) i 0)
    rows_read = subst (λ (cs : List ℕ). (i : ℕ) → i < length cs → HasRow ps width (get_or cs i 0)) (ap children is_read) N.rows

  pub code_inside : head_kind (get_or ws 0 0) ≡ 2 → 1 < length ws
  unfolding body_count tag_of_in
  code_inside p = omega (arith, length-drop 1 ws, eqb-true (length (drop 1 ws)) 1 (counted kinds.primitive p))

  pub child_inside : head_kind (get_or ws 0 0) ≡ 4 → 1 < length ws
  unfolding body_count tag_of_in
  child_inside p = omega (arith, length-drop 1 ws, eqb-true (length (drop 1 ws)) 1 (counted kinds.list p))

  -- a row for the child in a body word
  word_row : (k : Kind) → head_kind (get_or ws 0 0) ≡ disc k → children (read_node k ws) ≡ map child (drop 1 ws) → (i : ℕ) → i < length (drop 1 ws) → HasRow ps width (child (get_or (drop 1 ws) i 0))
  unfolding child
  word_row k p e i l =
      subst (HasRow ps width) (ap (λ (cs : List ℕ). get_or cs i 0) e ∙ get_or-map child (drop 1 ws) i 0)
      (rows_read k p i (omega (arith, ap length e, length-map (drop 1 ws) child)))

  pub child_row : head_kind (get_or ws 0 0) ≡ 4 → HasRow ps width (child (get_or ws 1 0))
  unfolding children_of
  child_row p = subst (λ (w : ℕ). HasRow ps width (child w)) (get_or-drop 1 ws 0 0) (word_row kinds.list p refl 0 (omega (arith, child_inside p, length-drop 1 ws)))

  module _ (p : head_kind (get_or ws 0 0) ≡ 6) where
    pub field_row : (i : ℕ) → i < length (drop 1 ws) → HasRow ps width (child (get_or (drop 1 ws) i 0))
    unfolding children_of
    field_row = word_row kinds.attr_set p refl

    pub dynamic_inside : bit (head_dynamic (get_or ws 0 0)) ≤ length (drop 1 ws)
    unfolding body_count tag_of_in
    dynamic_inside = leb-true _ _ (and_true (leb (bit (head_dynamic (get_or ws 0 0))) (length (drop 1 ws))) _ (counted kinds.attr_set p)).0

    pub fields_rise : Risen (take (length (drop 1 ws) - bit (head_dynamic (get_or ws 0 0))) (drop 1 ws))
    unfolding tag_of_in
    fields_rise = record { is = ap rising (sym (fields_named (take (length (drop 1 ws) - bit (head_dynamic (get_or ws 0 0))) (drop 1 ws)))) ∙ (well_parts N.table N.nodes (read_node kinds.attr_set ws) (good_read kinds.attr_set p)).rising_so }
