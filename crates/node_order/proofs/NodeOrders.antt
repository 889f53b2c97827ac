-- Node order is one, and it tells apart any two nodes that may stand in an arena: such a node can be made again from its keys.
use Prim.Native.Nat.{ℕ, suc, ◌+◌, ◌<◌, ◌≤◌}
use mathlib.Core.Path.{◌≡◌, refl, sym, ap, ap₂, ◌∙◌}
use mathlib.Core.Bool.{Bool, true, false, ◌&&◌}
use mathlib.Core.List.{List, [], ◌∷◌, ◌++◌, map}
use mathlib.Core.Option.{some}
use native.Mathlib.Omega.{arith}
use lib.ListN.{length, get_or, drop, length-drop}
use lib.Dec.{eqb, ltb}
use borrow.Author.Tests.{eq-eqb, ne_eqb, eqb-true, ltb-true}
use Rattle.words.specs.Words.{bit}
use Rattle.types.specs.Kind as kinds
use Rattle.types.specs.Kind.{Kind, disc, kind_of, body_count}
use Rattle.types.specs.Node.{positive, negative, Field, field, primitive, list, lambda, attrset, named, Tag, members, bound, var, neg, form, Node, node, tag, kind, field_names, names, child_words_in, formed, linked, rising, well_in}
use Rattle.types.specs.Order.{order, lexicographic, TotalOrder}
use Rattle.std.specs.declared.cmp.Ordering.TheVariants.{Equal}
use Rattle.types.proofs.Tests.{and_true}
use Rattle.types.proofs.Orders.{order_total, Ranking, total_ranking, ranking_refl, by_ranking, then_ranking, then_equal, keys_total, lexicographic_total}
use Rattle.types.proofs.KindNumbers.{kind_of_disc}
use Rattle.types.proofs.Nodes.{nil, cons, Formed, formed_parts}
use Rattle.node_order.specs.NodeOrder.{Entry, entry_order, Keys, keys_order, entries, optional_names, node_keys, node_order, Settled}
use Rattle.node_order.specs.Theorems.{NodeOrderOrders, WellSettled}

-- ---- keys
entry_total : TotalOrder entry_order
unfolding entry_order
entry_total =
    keys_total (λ (e : Entry). e.name) (λ (e : Entry). e.child) order_total order_total (λ x y p q. λ i. record { name = p i; child = q i })

entries_total : TotalOrder (lexicographic entry_order)
entries_total = lexicographic_total entry_total

numbers_total : TotalOrder (lexicographic order)
numbers_total = lexicographic_total order_total

keys_ranking : Ranking keys_order
unfolding keys_order
keys_ranking =
    then_ranking (by_ranking (λ (k : Keys). k.kind) (total_ranking order_total))
    (then_ranking (by_ranking (λ (k : Keys). k.entries) (total_ranking entries_total))
    (then_ranking (by_ranking (λ (k : Keys). k.others) (total_ranking numbers_total))
    (then_ranking (by_ranking (λ (k : Keys). k.opened) (total_ranking order_total))
    (by_ranking (λ (k : Keys). k.optional) (total_ranking numbers_total)))))

keys_equal : (x y : Keys) → keys_order x y ≡ Equal → x ≡ y
unfolding keys_order
keys_equal x y e =
    let p = then_equal (order x.kind y.kind) _ e in
    let q = then_equal (lexicographic entry_order x.entries y.entries) _ p.1 in
    let r = then_equal (lexicographic order x.others y.others) _ q.1 in
    let s = then_equal (order x.opened y.opened) _ r.1 in
    let k = order_total.equal x.kind y.kind p.0 in
    let es = entries_total.equal x.entries y.entries q.0 in
    let os = numbers_total.equal x.others y.others r.0 in
    let o = order_total.equal x.opened y.opened s.0 in
    let ns = numbers_total.equal x.optional y.optional s.1 in
    λ i. record { kind = k i; entries = es i; others = os i; opened = o i; optional = ns i }

-- ---- the fields again: those are optional whose names stand in the rising list of optional names
marked : List Entry → List ℕ → List Field
marked [] ns = []
marked (e ∷ es) [] = field false e.name ∷ marked es []
marked (e ∷ es) (n ∷ ns) = elim (eqb e.name n) [ true ↦ field true n ∷ marked es ns | false ↦ field false e.name ∷ marked es (n ∷ ns) ]

abbrev After : ℕ → List ℕ → Type 0
After n [] = Unit
After n (m ∷ ms) = n < m

after_less : (n m : ℕ) (ns : List ℕ) → n < m → After m ns → After n ns
after_less n m [] h a = tt
after_less n m (k ∷ ns) h a = omega arith

optional_after : (n : ℕ) (fs : List Field) → rising (n ∷ field_names fs) ≡ true → After n (optional_names fs)
unfolding rising optional_names
optional_after n [] e = tt
optional_after n (field true m ∷ fs) e = ltb-true n m (and_true (ltb n m) _ e).0
optional_after n (field false m ∷ fs) e =
    let p = and_true (ltb n m) (rising (m ∷ field_names fs)) e in
    after_less n m (optional_names fs) (ltb-true n m p.0) (optional_after m fs p.1)

pub rising_rest : (n : ℕ) (fs : List Field) → rising (n ∷ field_names fs) ≡ true → rising (field_names fs) ≡ true
unfolding rising
rising_rest n [] e = refl
rising_rest n (field o m ∷ fs) e = (and_true (ltb n m) _ e).1

marked_no : (e : Entry) (es : List Entry) (ns : List ℕ) → After e.name ns → marked (e ∷ es) ns ≡ field false e.name ∷ marked es ns
unfolding marked
marked_no e es [] a = refl
marked_no e es (n ∷ ns) a = rw (marked, ne_eqb e.name n (λ p. omega arith))

marked_back : (fs : List Field) (cs : List ℕ) → length fs ≤ length cs → rising (field_names fs) ≡ true → marked (entries fs cs) (optional_names fs) ≡ fs
unfolding marked entries optional_names
marked_back [] cs l r = refl
marked_back (f ∷ fs) [] l r = absurd (omega arith)
marked_back (field true n ∷ fs) (c ∷ cs) l r = rw (marked, eq-eqb n n refl) (cons refl (marked_back fs cs (omega arith) (rising_rest n fs r)))
marked_back (field false n ∷ fs) (c ∷ cs) l r =
    marked_no (record { name = n; child = c }) (entries fs cs) (optional_names fs) (optional_after n fs r)
    ∙ cons refl (marked_back fs cs (omega arith) (rising_rest n fs r))

-- ---- the node again
abbrev child_of : Entry → ℕ
child_of e = e.child

abbrev first : List Entry → ℕ
first [] = 0
first (e ∷ es) = e.name

made : Kind → Keys → Node
made kinds.bottom k = node (bound positive) []
made kinds.top k = node (bound negative) []
made kinds.primitive k = node (form (primitive (get_or k.others 0 0))) []
made kinds.ty_var k = node (var (get_or k.others 0 0)) []
made kinds.list k = node (form list) k.others
made kinds.lambda k = node (form lambda) k.others
made kinds.attr_set k =
    node (form (attrset (marked k.entries k.optional) (eqb (length k.others) 1) (eqb k.opened 1))) (map child_of k.entries ++ k.others)
made kinds.union k = node (members positive) k.others
made kinds.intersection k = node (members negative) k.others
made kinds.named k = node (form (named (first k.entries))) (map child_of k.entries)
made kinds.neg k = node neg k.others

children_again : (fs : List Field) (cs : List ℕ) → length fs ≤ length cs → map child_of (entries fs cs) ++ drop (length fs) cs ≡ cs
unfolding entries
children_again [] cs l = refl
children_again (f ∷ fs) [] l = absurd (omega arith)
children_again (field o n ∷ fs) (c ∷ cs) l = cons refl (children_again fs cs (omega arith))

bit_back : (b : Bool) → eqb (bit b) 1 ≡ b
bit_back true = refl
bit_back false = refl

made_back : (t : Tag) (cs : List ℕ) → Formed t cs → rising (names t) ≡ true → made (kind t) (node_keys (node t cs)) ≡ node t cs
unfolding made node_keys body_count child_words_in
made_back (members positive) cs F r = refl
made_back (members negative) cs F r = refl
made_back (bound positive) cs F r = ap (node (bound positive)) (sym (nil cs (eqb-true (length cs) 0 F.counted)))
made_back (bound negative) cs F r = ap (node (bound negative)) (sym (nil cs (eqb-true (length cs) 0 F.counted)))
made_back (var v) cs F r = ap (node (var v)) (sym (nil cs (omega (arith, eqb-true (suc (length cs)) 1 F.counted))))
made_back neg cs F r = refl
made_back (form (primitive c)) cs F r = ap (node (form (primitive c))) (sym (nil cs (omega (arith, eqb-true (suc (length cs)) 1 F.counted))))
made_back (form list) cs F r = refl
made_back (form lambda) cs F r = refl
made_back (form (attrset fs d o)) cs F r =
    let l : length cs ≡ length fs + bit d = eqb-true (length cs) (length fs + bit d) F.matches in
    let n : length (drop (length fs) cs) ≡ bit d = omega (arith, length-drop (length fs) cs) in
    let p = marked_back fs cs (omega arith) r in
    let q : eqb (length (drop (length fs) cs)) 1 ≡ d = ap (λ (k : ℕ). eqb k 1) n ∙ bit_back d in
    let u = children_again fs cs (omega arith) in
    λ i. node (form (attrset (p i) (q i) (bit_back o i))) (u i)
made_back (form (named n)) [] F r = absurd (omega (arith, eqb-true 0 1 F.counted))
made_back (form (named n)) (c ∷ []) F r = refl
made_back (form (named n)) (c ∷ b ∷ cs) F r = absurd (omega (arith, eqb-true (suc (suc (length cs))) 1 F.counted))

keys_apart : (x y : Node) → Settled x → Settled y → node_keys x ≡ node_keys y → x ≡ y
unfolding node_keys
keys_apart (node t cs) (node u ds) X Y e =
    let k : disc (kind t) ≡ disc (kind u) = ap (λ (w : Keys). w.kind) e in
    let s : some (kind t) ≡ some (kind u) = sym (kind_of_disc (kind t)) ∙ ap kind_of k ∙ kind_of_disc (kind u) in
    let m : kind t ≡ kind u = cc in
    sym (made_back t cs (formed_parts t cs X.formed) X.rising) ∙ ap₂ made m e ∙ made_back u ds (formed_parts u ds Y.formed) Y.rising

-- ---- the theorems
pub well_settled : WellSettled
unfolding well_in
well_settled table nodes x e =
    let p = and_true (formed x) (linked table nodes x && rising (names (tag x))) e in
    record { formed = p.0; rising = (and_true (linked table nodes x) (rising (names (tag x))) p.1).1 }

pub node_order_orders : NodeOrderOrders
unfolding node_order
node_order_orders =
    let R : Ranking node_order = by_ranking node_keys keys_ranking in
    record {
      refl_equal = ranking_refl R;
      turned = R.turned;
      trans = R.trans;
      alike = R.alike;
      equal = λ x y X Y e. keys_apart x y X Y (keys_equal (node_keys x) (node_keys y) e);
    }
