-- The sentences of 01 on a node's words, read off field by field, are what `decode` asks of them.
use Prim.Native.Nat.{ℕ, zero, suc, ◌+◌, ◌-◌, ◌^◌, ◌≤◌}
use mathlib.Core.Path.{◌≡◌, refl, sym, ap, ◌∙◌}
use mathlib.Core.Bool.{Bool, true, false, not, ◌&&◌}
use mathlib.Core.List.{List, [], ◌∷◌, map}
use mathlib.Core.Option.{Option, none, some}
use native.Mathlib.Omega.{arith}
use lib.ListN.{length, get_or, take, drop, length-map}
use lib.Seq.{length-take-le}
use lib.Dec.{eqb, leb}
use borrow.Author.Tests.{eqb-true, eq-eqb, leb-true, lt-ltb, not-true as negated}
use Rattle.words.specs.Words.{bit, head_word, head_kind, head_open, head_dynamic, head_zero, head_count, name_bits, field_word_in, field_optional, field_name_in, field_zero_in, child, child_zero, FieldFitsIn}
use Rattle.words.specs.declared.Layout.{Layout}
use Rattle.words.specs.declared.Layout.TheVariants as layout
use Rattle.types.specs.Kind as kinds
use Rattle.types.specs.Kind.{Kind, disc, kind_of, body_count, body_of}
use Rattle.types.specs.Out.{checked}
use Rattle.types.specs.Node.{positive, negative, Field, field, primitive, list, lambda, attrset, named, Tag, members, bound, var, neg, form, Node, node, tag, children, kind, data_of, field_names, names, child_words_in, body_in, head_of, encode_in, below, matched, formed_in, linked, rising, field_of_in, tag_of_in, children_of, guess_kind_in, guess_in, is_words_in}
use Rattle.types.specs.Fault.{flags_fit, kind_fits, head_fits, field_part, each_zero, body_fits_in, kind_body_fits_in, fits_in, kind_children, kind_names_in, children_in, words_names_in, first, fault_in}
use Rattle.types.specs.Theorems.{ChildrenEncode, FitsWords, FaultDecode}
use Rattle.types.proofs.Tests.{true_false, and_true, both, same_truth}
use Rattle.types.proofs.Lists.{below_cons, below_map}
use Rattle.types.proofs.KindNumbers.{kind_of_disc, disc_kind_of}
use Rattle.words.proofs.Words.{head_of_fields, field_of_fields, field_made, field_bounded, child_zero_made, child_of_fields}
use Rattle.types.proofs.Nodes.{nil, cons, length_child_words_in, length_body, FormedIn, formed_parts_in, parts_formed_in, encode_kind_in, encode_open_in, encode_dynamic_in, encode_zero_in, encode_count_in, length_encode_in, guess_encode_in}
use Rattle.types.proofs.Decodes.{is_words_yes_in, words_is_in, answer, by_guess_in}

each_cons : (f : ℕ → ℕ) (w : ℕ) (ws : List ℕ) → each_zero f (w ∷ ws) ≡ true → (f w ≡ 0) × (each_zero f ws ≡ true)
unfolding each_zero
each_cons f w ws e = let p = and_true (eqb (f w) 0) (each_zero f ws) e in (eqb-true (f w) 0 p.0, p.1)

each_more : (f : ℕ → ℕ) (w : ℕ) (ws : List ℕ) → f w ≡ 0 → each_zero f ws ≡ true → each_zero f (w ∷ ws) ≡ true
unfolding each_zero
each_more f w ws p q = both (eq-eqb (f w) 0 p) q

each_nil : (f : ℕ → ℕ) → each_zero f [] ≡ true
unfolding each_zero
each_nil f = refl

module _ (lay : Layout) where
  -- ---- from a formed-in lay node to the fields of its words
  children_zero : (cs : List ℕ) → below (2 ^ 12) cs ≡ true → each_zero child_zero cs ≡ true
  children_zero [] e = each_nil child_zero
  children_zero (c ∷ cs) e = let p = below_cons (2 ^ 12) c cs e in each_more child_zero c cs (child_zero_made c p.0) (children_zero cs p.1)

  fields_zero : (fs : List Field) (cs : List ℕ) → below (2 ^ name_bits lay) (field_names fs) ≡ true → below (2 ^ 12) cs ≡ true → each_zero (field_zero_in lay) (take (length fs) (child_words_in lay fs cs)) ≡ true
  unfolding child_words_in
  fields_zero [] cs n e = each_nil (field_zero_in lay)
  fields_zero (f ∷ fs) [] n e = each_nil (field_zero_in lay)
  fields_zero (field o m ∷ fs) (c ∷ cs) n e =
      let p = below_cons (2 ^ 12) c cs e in
      let q = below_cons (2 ^ name_bits lay) m (field_names fs) n in
      each_more (field_zero_in lay) (field_word_in lay o m c) _ (field_made lay o m c (record { few_names = q.0; few_nodes = p.0 })).zero_back (fields_zero fs cs q.1 p.1)

  rest_zero : (fs : List Field) (cs : List ℕ) → below (2 ^ 12) cs ≡ true → each_zero child_zero (drop (length fs) (child_words_in lay fs cs)) ≡ true
  unfolding child_words_in
  rest_zero [] cs e = children_zero cs e
  rest_zero (f ∷ fs) [] e = each_nil child_zero
  rest_zero (field o m ∷ fs) (c ∷ cs) e = rest_zero fs cs (below_cons (2 ^ 12) c cs e).1

  flags_of : (t : Tag) → flags_fit (body_of (kind t)) (data_of t).opened (data_of t).dynamic ≡ true
  flags_of (members positive) = refl
  flags_of (members negative) = refl
  flags_of (bound positive) = refl
  flags_of (bound negative) = refl
  flags_of (var v) = refl
  flags_of neg = refl
  flags_of (form (primitive c)) = refl
  flags_of (form list) = refl
  flags_of (form lambda) = refl
  flags_of (form (attrset fs d o)) = refl
  flags_of (form (named n)) = refl

  plain_body : (cs : List ℕ) → below (2 ^ 12) cs ≡ true → body_fits_in lay kinds.children false cs ≡ true
  unfolding body_fits_in
  plain_body cs e = both refl (both (each_nil (field_zero_in lay)) (children_zero cs e))

  body_of_node : (t : Tag) (cs : List ℕ) → FormedIn lay t cs → body_fits_in lay (body_of (kind t)) (data_of t).dynamic (body_in lay (node t cs)) ≡ true
  unfolding body_fits_in child_words_in body_count
  body_of_node (members positive) cs F = plain_body cs F.few_nodes
  body_of_node (members negative) cs F = plain_body cs F.few_nodes
  body_of_node (bound positive) cs F = refl
  body_of_node (bound negative) cs F = refl
  body_of_node (var v) cs F = refl
  body_of_node neg cs F = plain_body cs F.few_nodes
  body_of_node (form (primitive c)) cs F = both (lt-ltb c 8 (below_cons 8 c [] F.own).0) refl
  body_of_node (form list) cs F = plain_body cs F.few_nodes
  body_of_node (form lambda) cs F = plain_body cs F.few_nodes
  body_of_node (form (attrset fs d o)) cs F =
      let l : length cs ≡ length fs + bit d = eqb-true (length cs) (length fs + bit d) F.matches in
      let k : length (child_words_in lay fs cs) - bit d ≡ length fs = omega (arith, length_child_words_in lay fs cs) in
      let p : each_zero (field_zero_in lay) (take (length (child_words_in lay fs cs) - bit d) (child_words_in lay fs cs)) ≡ true = rw k (fields_zero fs cs F.few_names F.few_nodes) in
      let q : each_zero child_zero (drop (length (child_words_in lay fs cs) - bit d) (child_words_in lay fs cs)) ≡ true = rw k (rest_zero fs cs F.few_nodes) in
      both refl (both p q)
  body_of_node (form (named n)) [] F = absurd (omega (arith, eqb-true 0 1 F.counted))
  body_of_node (form (named n)) (c ∷ []) F =
      let p = below_cons (2 ^ 12) c [] F.few_nodes in
      let q = below_cons (2 ^ name_bits lay) n [] F.few_names in
      let m : FieldFitsIn lay n c = record { few_names = q.0; few_nodes = p.0 } in
      both (ap not (field_made lay false n c m).optional_back) (both (each_more (field_zero_in lay) (field_word_in lay false n c) [] (field_made lay false n c m).zero_back refl) refl)
  body_of_node (form (named n)) (c ∷ d ∷ cs) F = absurd (omega (arith, eqb-true (suc (suc (length cs))) 1 F.counted))

  -- ---- what `fits_in lay` says, part by part
  pub record Fit (h : ℕ) (b : List ℕ) : Type 0 where
    pub of_kind : Kind
    pub zeros : head_zero h ≡ 0
    pub kinded : kind_of (head_kind h) ≡ some of_kind
    pub flagged : flags_fit (body_of of_kind) (head_open h) (head_dynamic h) ≡ true
    pub counted : body_count of_kind (head_dynamic h) (length b) ≡ true
    pub long : length b ≡ head_count h
    pub bodied : body_fits_in lay (body_of of_kind) (head_dynamic h) b ≡ true

  pub fit_fits : (h : ℕ) (b : List ℕ) → Fit h b → fits_in lay (h ∷ b) ≡ true
  unfolding fits_in head_fits
  fit_fits h b F =
      let p : kind_fits (kind_of (head_kind h)) (head_open h) (head_dynamic h) (head_count h) ≡ true
      = rw (F.kinded, ← F.long) (both F.flagged F.counted) in
      let q : kind_body_fits_in lay (kind_of (head_kind h)) (head_dynamic h) b ≡ true = rw F.kinded F.bodied in
      both (both (eq-eqb (head_zero h) 0 F.zeros) p) (both (eq-eqb (length b) (head_count h) F.long) q)

  pub fits_fit : (h : ℕ) (b : List ℕ) → fits_in lay (h ∷ b) ≡ true → Fit h b
  unfolding fits_in head_fits
  fits_fit h b e = go (kind_of (head_kind h)) refl q.0 r.1
    where
      p : (head_fits h ≡ true) × ((eqb (length b) (head_count h) && kind_body_fits_in lay (kind_of (head_kind h)) (head_dynamic h) b) ≡ true)
      p = and_true (head_fits h) _ e

      q : (kind_fits (kind_of (head_kind h)) (head_open h) (head_dynamic h) (head_count h) ≡ true) × (head_zero h ≡ 0)
      q = let z = and_true (eqb (head_zero h) 0) _ p.0 in (z.1, eqb-true (head_zero h) 0 z.0)

      r : (length b ≡ head_count h) × (kind_body_fits_in lay (kind_of (head_kind h)) (head_dynamic h) b ≡ true)
      r = let z = and_true (eqb (length b) (head_count h)) _ p.1 in (eqb-true (length b) (head_count h) z.0, z.1)

      go : (o : Option Kind) → kind_of (head_kind h) ≡ o → kind_fits o (head_open h) (head_dynamic h) (head_count h) ≡ true → kind_body_fits_in lay o (head_dynamic h) b ≡ true → Fit h b
      go none k f g = absurd (true_false (sym f))
      go (some j) k f g =
          let z = and_true (flags_fit (body_of j) (head_open h) (head_dynamic h)) _ f in
          record { of_kind = j; zeros = q.1; kinded = k; flagged = z.0; counted = ap (body_count j (head_dynamic h)) r.0 ∙ z.1; long = r.0; bodied = g }

  pub fits_encode_in : (x : Node) → formed_in lay x ≡ true → fits_in lay (encode_in lay x) ≡ true
  unfolding encode_in
  fits_encode_in (node t cs) e =
      let x = node t cs in
      let F = formed_parts_in lay t cs e in
      fit_fits (head_of x) (body_in lay x) (record {
        of_kind = kind t;
        zeros = encode_zero_in lay x e;
        kinded = ap kind_of (encode_kind_in lay x e) ∙ kind_of_disc (kind t);
        flagged = (λ i. flags_fit (body_of (kind t)) (encode_open_in lay x e i) (encode_dynamic_in lay x e i)) ∙ flags_of t;
        counted = (λ i. body_count (kind t) (encode_dynamic_in lay x e i) (length_body lay x i)) ∙ F.counted;
        long = length_body lay x ∙ sym (encode_count_in lay x e);
        bodied = ap (λ (d : Bool). body_fits_in lay (body_of (kind t)) d (body_in lay x)) (encode_dynamic_in lay x e) ∙ body_of_node t cs F;
      })

  -- ---- from the fields of words to a formed-in lay node
  -- what a kind, its flags and a body-in lay make up
  record Made (k : Kind) (o d : Bool) (b : List ℕ) (t : Tag) (cs : List ℕ) : Type 0 where
    pub kinded : kind t ≡ k
    pub opened_so : (data_of t).opened ≡ o
    pub dynamic_so : (data_of t).dynamic ≡ d
    pub bodied : body_in lay (node t cs) ≡ b
    pub matches : matched t (length cs) ≡ true
    pub own : below (data_of t).limit (data_of t).numbers ≡ true
    pub few_names : below (2 ^ name_bits lay) (names t) ≡ true
    pub few_nodes : below (2 ^ 12) cs ≡ true

  children_words : (b : List ℕ) → each_zero child_zero b ≡ true → map child b ≡ b
  children_words [] e = refl
  children_words (w ∷ b) e = let p = each_cons child_zero w b e in cons (child_of_fields w p.0) (children_words b p.1)

  few_children : (b : List ℕ) → below (2 ^ 12) (map child b) ≡ true
  unfolding child
  few_children b = below_map child (2 ^ 12) b (λ w. omega arith)

  fields_words : (m : ℕ) (b : List ℕ) → below (2 ^ 32) b ≡ true → each_zero (field_zero_in lay) (take m b) ≡ true → each_zero child_zero (drop m b) ≡ true → child_words_in lay (map (field_of_in lay) (take m b)) (map child b) ≡ b
  unfolding child_words_in
  fields_words zero b l e f = children_words b f
  fields_words (suc m) [] l e f = refl
  fields_words (suc m) (w ∷ b) l e f =
      let p = below_cons (2 ^ 32) w b l in
      let q = each_cons (field_zero_in lay) w (take m b) e in
      cons (field_of_fields lay w p.0 q.0) (fields_words m b p.1 q.1 f)

  fields_names : (ws : List ℕ) → field_names (map (field_of_in lay) ws) ≡ map (field_name_in lay) ws
  fields_names [] = refl
  fields_names (w ∷ ws) = cons refl (fields_names ws)

  few_fields : (ws : List ℕ) → below (2 ^ name_bits lay) (field_names (map (field_of_in lay) ws)) ≡ true
  few_fields ws = rw (fields_names ws) (below_map (field_name_in lay) (2 ^ name_bits lay) ws (λ w. (field_bounded lay w).few_names))

  no_flags : (o d : Bool) → (not o && not d) ≡ true → (false ≡ o) × (false ≡ d)
  no_flags true d e = absurd (true_false (sym e))
  no_flags false true e = absurd (true_false (sym e))
  no_flags false false e = (refl, refl)

  single : (b : List ℕ) → length b ≡ 1 → (get_or b 0 0 ∷ []) ≡ b
  single [] e = absurd (omega arith)
  single (w ∷ []) e = refl
  single (w ∷ v ∷ b) e = absurd (omega arith)

  name_words : (b : List ℕ) → length b ≡ 1 → below (2 ^ 32) b ≡ true → field_optional (get_or b 0 0) ≡ false → each_zero (field_zero_in lay) b ≡ true → child_words_in lay (field false (field_name_in lay (get_or b 0 0)) ∷ []) (map child b) ≡ b
  unfolding child_words_in
  name_words [] n l f z = absurd (omega arith)
  name_words (w ∷ []) n l f z =
      cons (ap (λ (x : Bool). field_word_in lay x (field_name_in lay w) (child w)) (sym f) ∙ field_of_fields lay w (below_cons (2 ^ 32) w [] l).0 (each_cons (field_zero_in lay) w [] z).0) refl
  name_words (w ∷ v ∷ b) n l f z = absurd (omega arith)

  module _ (o d : Bool) (b : List ℕ) (l : below (2 ^ 32) b ≡ true) where
    plain : (k : Kind) (t : Tag) (cs : List ℕ) → kind t ≡ k → (data_of t).opened ≡ false → (data_of t).dynamic ≡ false → matched t (length cs) ≡ true → (not o && not d) ≡ true → body_in lay (node t cs) ≡ b → below (data_of t).limit (data_of t).numbers ≡ true → below (2 ^ name_bits lay) (names t) ≡ true → below (2 ^ 12) cs ≡ true → Made k o d b t cs
    plain k t cs p q r m f w x y z =
        let g = no_flags o d f in
        record { kinded = p; opened_so = q ∙ g.0; dynamic_so = r ∙ g.1; bodied = w; matches = m; own = x; few_names = y; few_nodes = z }

    made : (k : Kind) → flags_fit (body_of k) o d ≡ true → body_count k d (length b) ≡ true → body_fits_in lay (body_of k) d b ≡ true → Made k o d b (tag_of_in lay k o d b) (children_of (body_of k) b)
    unfolding body_count body_fits_in tag_of_in children_of below child_words_in
    made kinds.bottom f n z = plain kinds.bottom (bound positive) [] refl refl refl refl f (sym (nil b (eqb-true (length b) 0 n))) refl refl refl
    made kinds.top f n z = plain kinds.top (bound negative) [] refl refl refl refl f (sym (nil b (eqb-true (length b) 0 n))) refl refl refl
    made kinds.primitive f n z = plain kinds.primitive (form (primitive (get_or b 0 0))) [] refl refl refl refl f (single b (eqb-true (length b) 1 n)) z refl refl
    made kinds.ty_var f n z =
        let q = single b (eqb-true (length b) 1 n) in
        plain kinds.ty_var (var (get_or b 0 0)) [] refl refl refl refl f q (ap (below (2 ^ 32)) q ∙ l) refl refl
    made kinds.list f n z = plain kinds.list (form list) (map child b) refl refl refl refl f (children_words b z) refl refl (few_children b)
    made kinds.lambda f n z = plain kinds.lambda (form lambda) (map child b) refl refl refl refl f (children_words b z) refl refl (few_children b)
    made kinds.attr_set f n z =
        let m = length b - bit d in
        let q : bit d ≤ length b = leb-true (bit d) (length b) (and_true (leb (bit d) (length b)) _ n).0 in
        let r = and_true (each_zero (field_zero_in lay) (take m b)) _ z in
        let c : length (map child b) ≡ length (map (field_of_in lay) (take m b)) + bit d
        = omega (arith, length-map b child, length-map (take m b) (field_of_in lay), length-take-le m b (omega arith)) in
        record {
          kinded = refl;
          opened_so = refl;
          dynamic_so = refl;
          bodied = fields_words m b l r.0 r.1;
          matches = eq-eqb (length (map child b)) (length (map (field_of_in lay) (take m b)) + bit d) c;
          own = refl;
          few_names = few_fields (take m b);
          few_nodes = few_children b;
        }
    made kinds.union f n z = plain kinds.union (members positive) (map child b) refl refl refl refl f (children_words b z) refl refl (few_children b)
    made kinds.intersection f n z = plain kinds.intersection (members negative) (map child b) refl refl refl refl f (children_words b z) refl refl (few_children b)
    made kinds.named f n z =
        let q = and_true (not (field_optional (get_or b 0 0))) _ z in
        let r = and_true (each_zero (field_zero_in lay) b) true q.1 in
        plain kinds.named (form (named (field_name_in lay (get_or b 0 0)))) (map child b) refl refl refl refl f
        (name_words b (eqb-true (length b) 1 n) l (negated (field_optional (get_or b 0 0)) q.0) r.0)
        refl (few_fields (get_or b 0 0 ∷ [])) (few_children b)
    made kinds.neg f n z = plain kinds.neg neg (map child b) refl refl refl refl f (children_words b z) refl refl (few_children b)

    made_formed : (k : Kind) (t : Tag) (cs : List ℕ) → body_count k d (length b) ≡ true → Made k o d b t cs → formed_in lay (node t cs) ≡ true
    made_formed k t cs n M = parts_formed_in lay t cs (record {
      counted =
          ap (body_count (kind t) (data_of t).dynamic) (sym (length_body lay (node t cs)))
          ∙ (λ i. body_count (M.kinded i) (M.dynamic_so i) (length (M.bodied i)))
          ∙ n;
      matches = M.matches;
      own = M.own;
      few_names = M.few_names;
      few_nodes = M.few_nodes;
    })

  made_words : (h : ℕ) (k : Kind) (o d : Bool) (b : List ℕ) (t : Tag) (cs : List ℕ) → h ≡ head_word (disc k) o d (length b) → Made k o d b t cs → h ∷ b ≡ encode_in lay (node t cs)
  unfolding encode_in head_of
  made_words h k o d b t cs q M =
      let counted = sym (λ i. head_word (disc (M.kinded i)) (M.opened_so i) (M.dynamic_so i) (length (M.bodied i))) in
      let same_count = ap (head_word (disc (kind t)) (data_of t).opened (data_of t).dynamic) (length_body lay (node t cs)) in
      cons (q ∙ counted ∙ same_count) (sym M.bodied)

  -- words that fit are those of the node that they make up
  fit_words : (h : ℕ) (b : List ℕ) → below (2 ^ 32) b ≡ true → Fit h b → is_words_in lay (h ∷ b) (guess_in lay (h ∷ b)) ≡ true
  unfolding guess_in
  fit_words h b l F =
      let k = F.of_kind in
      let o = head_open h in
      let d = head_dynamic h in
      let t = tag_of_in lay k o d b in
      let cs = children_of (body_of k) b in
      let M = made o d b l k F.flagged F.counted F.bodied in
      let e : guess_kind_in lay (kind_of (head_kind h)) o d b ≡ node t cs = ap (λ (x : Option Kind). guess_kind_in lay x o d b) F.kinded in
      let q : h ≡ head_word (disc k) o d (length b)
      = sym (head_of_fields h F.zeros) ∙ (λ i. head_word (disc_kind_of (head_kind h) k F.kinded i) o d (sym F.long i)) in
      let w = made_words h k o d b t cs q M in
      rw e (is_words_yes_in lay (h ∷ b) (node t cs) (made_formed o d b l k t cs F.counted M) w)

  -- malformed, both ways
  pub fits_words_in : FitsWords lay
  unfolding fits_in
  fits_words_in [] l = same_truth (is_words_in lay [] (guess_in lay [])) false (λ e. let p = words_is_in lay [] (guess_in lay []) e in absurd (omega (arith, ap length p.1, length_encode_in lay (guess_in lay [])))) (λ e. absurd (true_false (sym e)))
  fits_words_in (h ∷ b) l =
      same_truth (is_words_in lay (h ∷ b) (guess_in lay (h ∷ b))) (fits_in lay (h ∷ b))
      (λ e. let p = words_is_in lay (h ∷ b) (guess_in lay (h ∷ b)) e in ap (fits_in lay) p.1 ∙ fits_encode_in (guess_in lay (h ∷ b)) p.0)
      (λ e. fit_words h b (below_cons (2 ^ 32) h b l).1 (fits_fit h b e))

  -- ---- out of range, and fields unordered
  children_guess : (ws : List ℕ) → children (guess_in lay ws) ≡ children_in ws
  unfolding guess_in children_in
  children_guess [] = refl
  children_guess (h ∷ b) = go (kind_of (head_kind h))
    where
      go : (k : Option Kind) → children (guess_kind_in lay k (head_open h) (head_dynamic h) b) ≡ kind_children k b
      go none = refl
      go (some k) = refl

  -- the children that a formed-in lay node's words hold are the node's
  pub children_encode_in : ChildrenEncode lay
  children_encode_in x e = sym (children_guess (encode_in lay x)) ∙ ap children (guess_encode_in lay x e)

  kind_names_so : (k : Kind) (o d : Bool) (b : List ℕ) → body_count k d (length b) ≡ true → names (tag_of_in lay k o d b) ≡ map (field_name_in lay) (field_part (body_of k) d b)
  unfolding tag_of_in body_count
  kind_names_so kinds.bottom o d b n = refl
  kind_names_so kinds.top o d b n = refl
  kind_names_so kinds.primitive o d b n = refl
  kind_names_so kinds.ty_var o d b n = refl
  kind_names_so kinds.list o d b n = refl
  kind_names_so kinds.lambda o d b n = refl
  kind_names_so kinds.attr_set o d b n = fields_names (take (length b - bit d) b)
  kind_names_so kinds.union o d b n = refl
  kind_names_so kinds.intersection o d b n = refl
  kind_names_so kinds.named o d b n = ap (map (field_name_in lay)) (single b (eqb-true (length b) 1 n))
  kind_names_so kinds.neg o d b n = refl

  names_guess : (h : ℕ) (b : List ℕ) → Fit h b → names (tag (guess_in lay (h ∷ b))) ≡ words_names_in lay (h ∷ b)
  unfolding guess_in words_names_in
  names_guess h b F =
      let k = F.of_kind in
      let o = head_open h in
      let d = head_dynamic h in
      ap (λ (x : Option Kind). names (tag (guess_kind_in lay x o d b))) F.kinded
      ∙ kind_names_so k o d b F.counted
      ∙ ap (λ (x : Option Kind). kind_names_in lay x d b) (sym F.kinded)

  linked_parts : (table nodes : ℕ) (x : Node) → linked table nodes x ≡ (below nodes (children x) && below table (names (tag x)))
  unfolding linked
  linked_parts table nodes (node t cs) = refl

  first_answer : (x : Node) (b l r : Bool) → checked (answer x b l r) ≡ first b l r
  unfolding answer
  first_answer x false l r = refl
  first_answer x true false r = refl
  first_answer x true true false = refl
  first_answer x true true true = refl

  first_fits : (table nodes : ℕ) (ws : List ℕ) (f : Bool) → fits_in lay ws ≡ f → first f (linked table nodes (guess_in lay ws)) (rising (names (tag (guess_in lay ws)))) ≡ first f (below nodes (children_in ws) && below table (words_names_in lay ws)) (rising (words_names_in lay ws))
  unfolding fits_in
  first_fits table nodes ws false e = refl
  first_fits table nodes [] true e = absurd (true_false (sym e))
  first_fits table nodes (h ∷ b) true e =
      let n = names_guess h b (fits_fit h b e) in
      ap (λ (l : Bool). first true l (rising (names (tag (guess_in lay (h ∷ b)))))) (linked_parts table nodes (guess_in lay (h ∷ b)))
      ∙ (λ i. first true (below nodes (children_guess (h ∷ b) i) && below table (n i)) (rising (n i)))

  -- the first of 3, 4 and 5, read off field by field, is `decode_in lay`'s
  pub fault_decode_in : FaultDecode lay
  unfolding fault_in
  fault_decode_in table nodes ws l =
      ap checked (by_guess_in lay table nodes ws)
      ∙ first_answer (guess_in lay ws) (is_words_in lay ws (guess_in lay ws)) (linked table nodes (guess_in lay ws)) (rising (names (tag (guess_in lay ws))))
      ∙ ap (λ (f : Bool). first f (linked table nodes (guess_in lay ws)) (rising (names (tag (guess_in lay ws))))) (fits_words_in ws l)
      ∙ first_fits table nodes ws (fits_in lay ws) refl

-- ---- the same of today's layout
pub children_encode : ChildrenEncode layout.New
children_encode = children_encode_in layout.New

pub fault_decode : FaultDecode layout.New
fault_decode = fault_decode_in layout.New
