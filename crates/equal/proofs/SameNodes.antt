-- The words of two formed nodes tell whether the nodes have the same label and as many children: by lengths, heads, and then a number of their own or their fields.
use Prim.Native.Nat.{ℕ, suc, ◌+◌, ◌-◌, ◌<◌, ◌≤◌}
use mathlib.Core.Path.{◌≡◌, refl, sym, ap, ap₂, ◌∙◌}
use mathlib.Core.Bool.{Bool, true, false}
use mathlib.Core.List.{List, [], map}
use native.Mathlib.Omega.{arith}
use lib.ListN.{length, get_or, take, drop}
use lib.Dec.{eqb}
use borrow.Author.Tests.{eqb-true, eq-eqb}
use Rattle.words.specs.Words.{head_word, head_kind, head_open, head_dynamic}
use Rattle.types.specs.Same.{same}
use Rattle.types.specs.Kind.{disc}
use Rattle.types.specs.Node.{Field, Node, node, tag, children, kind, data_of, field_names, body, head_of, encode, encode_in, below, formed, field_of}
use Rattle.types.proofs.Tests.{and_true, both, not_true, same_truth, same_true, same_if}
use Rattle.types.proofs.Nodes.{formed_parts, encode_kind, encode_open, encode_dynamic}
use Rattle.node_order.specs.WordsOrder.{field_count}
use Rattle.node_order.specs.Inner.{FieldCount}
use Rattle.names.specs.Table.{Name}
use Rattle.equal.specs.Equal.{label, spell, label_of, label_dec}
use Rattle.name_matching.specs.Inner.{Matches}
use Rattle.equal.specs.Inner.Data.{same_fields, same_data, Named, SameData}
use Rattle.node_order.proofs.Fielded.{fielded, body_length}
use Rattle.equal.proofs.Labels.{plain, one_word}
use Rattle.equal.proofs.Fields.{fields_spelt, spelt_fields}

-- ---- what the test says
pub record Alike (ns ms : List Name) (x y : Node) : Type 0 where
  pub labels : label_of ns (tag x) ≡ label_of ms (tag y)
  pub counts : length (children x) ≡ length (children y)

module _ (ns ms : List Name) (x y : Node) where
  pub data_alike : same_data ns x ms y ≡ true → Alike ns ms x y
  unfolding same_data
  data_alike e =
      let p = and_true (same label_dec (label_of ns (tag x)) (label_of ms (tag y))) (eqb (length (children x)) (length (children y))) e in
      record { labels = same_true label_dec _ _ p.0; counts = eqb-true _ _ p.1 }

  pub alike_data : Alike ns ms x y → same_data ns x ms y ≡ true
  unfolding same_data
  alike_data A = both (same_if label_dec _ _ A.labels) (eq-eqb _ _ A.counts)

-- ---- nodes alike have heads and words alike
same_lengths : (ns ms : List Name) (x y : Node) → Alike ns ms x y → length (body x) ≡ length (body y)
same_lengths ns ms (node t cs) (node u ds) A =
    let l = A.labels in
    let n : (data_of t).numbers ≡ (data_of u).numbers = cc in
    body_length t cs ∙ ap₂ ◌+◌ (ap length n) A.counts ∙ sym (body_length u ds)

same_heads : (ns ms : List Name) (x y : Node) → Alike ns ms x y → head_of x ≡ head_of y
unfolding head_of
same_heads ns ms x y A =
    let l = A.labels in
    let k : disc (kind (tag x)) ≡ disc (kind (tag y)) = cc in
    let d : (data_of (tag x)).dynamic ≡ (data_of (tag y)).dynamic = cc in
    let o : (data_of (tag x)).opened ≡ (data_of (tag y)).opened = cc in
    λ i. head_word (k i) (o i) (d i) (same_lengths ns ms x y A i)

encode_length : (x : Node) → length (encode x) ≡ suc (length (body x))
unfolding encode_in
encode_length x = refl

encode_head : (x : Node) → get_or (encode x) 0 0 ≡ head_of x
unfolding encode_in
encode_head x = refl

encode_body : (x : Node) → drop 1 (encode x) ≡ body x
unfolding encode_in
encode_body x = refl

encode_own : (x : Node) → get_or (encode x) 1 0 ≡ get_or (body x) 0 0
unfolding encode_in
encode_own x = refl

module _ (ks v w : List ℕ) where
  pub lengths_differ : (length v ≡ length w → ⊥) → SameData ks v w false
  lengths_differ f = record {
    is = λ ns ms M x y g h c d. sym (not_true (same_data ns x ms y) (λ e. f (ap length c ∙ encode_length x ∙ ap suc (same_lengths ns ms x y (data_alike ns ms x y e)) ∙ sym (encode_length y) ∙ ap length (sym d))));
  }

  pub heads_differ : (get_or v 0 0 ≡ get_or w 0 0 → ⊥) → SameData ks v w false
  heads_differ f = record {
    is = λ ns ms M x y g h c d.
        sym (not_true (same_data ns x ms y) (λ e.
        f (ap (λ (l : List ℕ). get_or l 0 0) c ∙ encode_head x ∙ same_heads ns ms x y (data_alike ns ms x y e) ∙ sym (encode_head y) ∙ ap (λ (l : List ℕ). get_or l 0 0) (sym d))));
  }

-- ---- below kind 4
plain_alike : (ns ms : List Name) (x y : Node) → formed x ≡ true → formed y ≡ true → disc (kind (tag x)) ≡ disc (kind (tag y)) → disc (kind (tag x)) < 4 → length (body x) ≡ length (body y) → eqb (get_or (body x) 0 0) (get_or (body y) 0 0) ≡ same_data ns x ms y
plain_alike ns ms (node t cs) (node u ds) p q k h l =
    let P = plain ns t cs (formed_parts t cs p) h in
    let Q = plain ms u ds (formed_parts u ds q) (omega (arith, k, h)) in
    same_truth _ _
    (λ e.
    let b : body (node t cs) ≡ body (node u ds) = one_word _ _ l P.short (eqb-true _ _ e) in
    alike_data ns ms (node t cs) (node u ds) (record {
      labels = P.labelled ∙ (λ i. label (k i) (b i) [] false false) ∙ sym Q.labelled;
      counts = P.childless ∙ sym Q.childless;
    }))
    (λ e.
    let A = data_alike ns ms (node t cs) (node u ds) e in
    let z = sym P.labelled ∙ A.labels ∙ Q.labelled in
    let b : body (node t cs) ≡ body (node u ds) = cc in
    eq-eqb _ _ (ap (λ (d : List ℕ). get_or d 0 0) b))

-- ---- from kind 4 on
fields_alike : (ns ms : List Name) (ks : List ℕ) → Matches ns ms ks → (x y : Node) → Named ns x → Named ms y → disc (kind (tag x)) ≡ disc (kind (tag y)) → (data_of (tag x)).dynamic ≡ (data_of (tag y)).dynamic → (data_of (tag x)).opened ≡ (data_of (tag y)).opened
    → 4 ≤ disc (kind (tag x)) → length (body x) ≡ length (body y) → (m : ℕ) → m ≡ field_count (disc (kind (tag x))) (data_of (tag x)).dynamic (length (body x))
    → same_fields ks (take m (body x)) (take m (body y)) ≡ same_data ns x ms y
fields_alike ns ms ks M (node v cs) (node w ds) p q k d o h l m e =
    let P = fielded v cs (formed_parts v cs p.formed_so) h in
    let Q = fielded w ds (formed_parts w ds q.formed_so) (omega (arith, k, h)) in
    let f : (data_of v).fields ≡ map field_of (take m (body (node v cs)))
    = P.fields ∙ ap (λ (i : ℕ). map field_of (take i (body (node v cs)))) (sym e) in
    let g : (data_of w).fields ≡ map field_of (take m (body (node w ds)))
    = Q.fields ∙ ap (λ (i : ℕ). map field_of (take i (body (node w ds)))) (sym (e ∙ (λ i. field_count (k i) (d i) (l i)))) in
    let a = ap (λ (z : List Field). below (length ns) (field_names z)) (sym f) ∙ p.inside in
    let b = ap (λ (z : List Field). below (length ms) (field_names z)) (sym g) ∙ q.inside in
    same_truth _ _
    (λ r.
    let s = ap (map (spell ns)) f ∙ fields_spelt M _ _ a b r ∙ ap (map (spell ms)) (sym g) in
    let n : (data_of v).numbers ≡ (data_of w).numbers = P.numberless ∙ sym Q.numberless in
    let bv = body_length v cs in
    let bw = body_length w ds in
    let nv = ap length P.numberless in
    let nw = ap length Q.numberless in
    alike_data ns ms (node v cs) (node w ds) (record { labels = λ i. label (k i) (n i) (s i) (d i) (o i); counts = omega (arith, bv, bw, nv, nw, l) }))
    (λ r.
    let A = data_alike ns ms (node v cs) (node w ds) r in
    let z = A.labels in
    let s : map (spell ns) (data_of v).fields ≡ map (spell ms) (data_of w).fields = cc in
    spelt_fields M _ _ a b (ap (map (spell ns)) (sym f) ∙ s ∙ ap (map (spell ms)) g))

-- ---- under equal heads
module _ (ks v w : List ℕ) (long : length v ≡ length w) (heads : get_or v 0 0 ≡ get_or w 0 0) where
  -- what equal heads say of the nodes
  record Headed (x y : Node) : Type 0 where
    kinds : disc (kind (tag x)) ≡ disc (kind (tag y))
    dynamics : (data_of (tag x)).dynamic ≡ (data_of (tag y)).dynamic
    opens : (data_of (tag x)).opened ≡ (data_of (tag y)).opened
    lengths : length (body x) ≡ length (body y)

  headed : (x y : Node) → formed x ≡ true → formed y ≡ true → v ≡ encode x → w ≡ encode y → Headed x y
  headed x y g h c d =
      let e : head_of x ≡ head_of y = sym (encode_head x) ∙ ap (λ (l : List ℕ). get_or l 0 0) (sym c) ∙ heads ∙ ap (λ (l : List ℕ). get_or l 0 0) d ∙ encode_head y in
      let lx = ap length c ∙ encode_length x in
      let ly = ap length d ∙ encode_length y in
      record {
        kinds = sym (encode_kind x g) ∙ ap head_kind e ∙ encode_kind y h;
        dynamics = sym (encode_dynamic x g) ∙ ap head_dynamic e ∙ encode_dynamic y h;
        opens = sym (encode_open x g) ∙ ap head_open e ∙ encode_open y h;
        lengths = omega (arith, long, lx, ly);
      }

  kind_there : {k : ℕ} (x : Node) → k ≡ head_kind (get_or v 0 0) → formed x ≡ true → v ≡ encode x → k ≡ disc (kind (tag x))
  kind_there x e g c = e ∙ ap (λ (l : List ℕ). head_kind (get_or l 0 0)) c ∙ ap head_kind (encode_head x) ∙ encode_kind x g

  module _ {k : ℕ} (e : k ≡ head_kind (get_or v 0 0)) where
    pub own_told : k < 4 → {i j : ℕ} → i ≡ get_or v 1 0 → j ≡ get_or w 1 0 → SameData ks v w (eqb i j)
    own_told l {i} {j} p q = record {
      is = λ ns ms M x y g h c d.
          let H = headed x y g.formed_so h.formed_so c d in
          let r : i ≡ get_or (body x) 0 0 = p ∙ ap (λ (z : List ℕ). get_or z 1 0) c ∙ encode_own x in
          let s : j ≡ get_or (body y) 0 0 = q ∙ ap (λ (z : List ℕ). get_or z 1 0) d ∙ encode_own y in
          ap₂ eqb r s ∙ plain_alike ns ms x y g.formed_so h.formed_so H.kinds (omega (arith, l, kind_there x e g.formed_so c)) H.lengths;
    }

    pub fields_told : 4 ≤ k → {m : ℕ} → FieldCount (get_or v 0 0) (length v - 1) m → {r : Bool} → r ≡ same_fields ks (take (m + 1 - 1) (drop 1 v)) (take (m + 1 - 1) (drop 1 w)) → SameData ks v w r
    fields_told l {m} F {r} q = record {
      is = λ ns ms M x y g h c d.
          let H = headed x y g.formed_so h.formed_so c d in
          let one : m + 1 - 1 ≡ m = omega arith in
          let bx : drop 1 v ≡ body x = ap (drop 1) c ∙ encode_body x in
          let by : drop 1 w ≡ body y = ap (drop 1) d ∙ encode_body y in
          let lx = ap length c ∙ encode_length x in
          let n : length v - 1 ≡ length (body x) = omega (arith, lx) in
          let hx : get_or v 0 0 ≡ head_of x = ap (λ (z : List ℕ). get_or z 0 0) c ∙ encode_head x in
          let f : m ≡ field_count (disc (kind (tag x))) (data_of (tag x)).dynamic (length (body x))
          = F.value ∙ ap₂ (λ (z i : ℕ). field_count (head_kind z) (head_dynamic z) i) hx n ∙ (λ i. field_count (encode_kind x g.formed_so i) (encode_dynamic x g.formed_so i) (length (body x))) in
          q ∙ (λ i. same_fields ks (take (one i) (bx i)) (take (one i) (by i)))
          ∙ fields_alike ns ms ks M x y g h H.kinds H.dynamics H.opens (omega (arith, l, kind_there x e g.formed_so c)) H.lengths m f;
    }
