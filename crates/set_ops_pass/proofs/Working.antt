-- A node in memory: which kind it is, and any node but a list, whose children are normalized before it.
use Prim.Native.Nat.{ℕ, ◌+◌, ◌*◌, ◌<◌}
use mathlib.Core.Path.{◌≡◌, refl, sym, ap, ◌∙◌, subst}
use mathlib.Core.Bool.{true, false, not, ◌||◌}
use mathlib.Core.List.{List}
use native.Mathlib.Omega.{arith}
use lib.ListN.{length, get_or, take}
use lib.Seq.{length-take-le}
use lib.Dec.{eqb}
use borrow.Author.Tests.{not-true, not-false}
use Rattle.std.specs.Prelude.{Ok, Err}
use Rattle.words.specs.Words.{child}
use Rattle.types.specs.declared.refusal.Refusal.{Refusal}
use Rattle.types.specs.Out.{Out}
use Rattle.types.specs.Kind.{disc}
use Rattle.types.specs.Node.{Tag, Node, node, tag, kind, children, encode, below}
use Rattle.types.specs.Arena.{Arena, at}
use Rattle.types.specs.Fault.{children_in}
use Rattle.types.specs.Memory.{Holds}
use Rattle.types.specs.Reply.{reply_of}
use Rattle.types.specs.declared.Counters.{Counters}
use Rattle.types.proofs.Faults.{children_encode}
use Rattle.types.proofs.Growth.{ext_length, ext_at}
use Rattle.types.proofs.Memories.{unique}
use Rattle.types.proofs.Sound.{sound_ext, at_formed, children_below}
use Rattle.node_store.specs.Inner.Stored.{InRange, NodeAt}
use Rattle.node_store.specs.Intern.{intern}
use Rattle.node_store.specs.Inner.Children.{ChildWords}
use Rattle.node_reading.specs.Inner.{KindAt}
use Rattle.node_store.proofs.Offspring.{as_many, child_is}
use Rattle.member_lists.proofs.BoundKinds.{list_tag, other_tag}
use Rattle.rebuilding.specs.Inner.Children.{AllChildren}
use Rattle.rebuilding.specs.Inner.Rebuilt.{Rebuilding, Rebuilds}
use Rattle.rebuilding.specs.declared.children.Children.{Children}
use Rattle.recursion.specs.Inner.Work.{Grown, Ready, Does, EachReady, DoesEach}
use Rattle.recursion.proofs.Leading.{each_done}
use Rattle.recursion.proofs.Turns.{Turn, turn_falls}
use Rattle.recursion.proofs.Nodes.{Rebuilt, InternsAs, node_refused, node_done}
use Rattle.simplification.specs.Pass.{list_kind}
use Rattle.set_op_lists.specs.SetOps.{normalize}
use Rattle.set_ops_pass.specs.Inner.{ListReady, OtherReady, MemberCount, MemberThere, MemberAt}
use Rattle.set_ops_pass.proofs.Normalizing.{at_other, lawful}

-- ---- the children in the words of a node
pub range_wide : {w s : List ℕ} {c : Counters} {n x : ℕ} → x ≡ n → InRange w s c n → InRange w s c x
range_wide {w} {s} {c} e R = subst (InRange w s c) (sym e) R

module _ {w s : List ℕ} {c : Counters} {n x : ℕ} (R : InRange w s c n) (e : x ≡ n) {ws b : List ℕ} (N : NodeAt w s c x ws) (B : ChildWords ws b) where
  read : (table : ℕ) (a : Arena) → Holds table w s c a → children_in ws ≡ children (at a n)
  read table a H = ap children_in (N.is table a H ∙ ap (λ (y : ℕ). encode (at a y)) e) ∙ children_encode (at a n) (at_formed table a H.good n (omega (arith, R.inside, H.nodes)))

  pub members_counted : MemberCount w s c n (length b)
  members_counted = record { is = λ table a H. as_many B ∙ ap length (read table a H) }

  member_read : (i : ℕ) {r : ℕ} → r ≡ child (get_or b i 0) → MemberAt w s c n i r
  member_read i q = record { is = λ table a H. child_is B i q ∙ ap (λ (y : List ℕ). get_or y i 0) (read table a H) }

pub member_range : {w s : List ℕ} {c : Counters} {n i x : ℕ} → MemberThere w s c n i → x ≡ n → InRange w s c x
member_range M e = range_wide e M.range

pub member_inside : {w s : List ℕ} {c : Counters} {n i x : ℕ} → MemberThere w s c n i → x ≡ n → {ws b : List ℕ} → NodeAt w s c x ws → ChildWords ws b → i < length b
member_inside M e N B = let L = M.range.lent in omega (arith, M.inside, as_many B, ap length (read M.range e N B L.table L.view L.holds))

pub member_is : {w s : List ℕ} {c : Counters} {n i x : ℕ} → MemberThere w s c n i → x ≡ n → {ws b : List ℕ} → NodeAt w s c x ws → ChildWords ws b → {r : ℕ} → r ≡ child (get_or b i 0) → MemberAt w s c n i r
member_is {i = i} M e N B q = member_read M.range e N B i q

interns_as : {w s : List ℕ} {c : Counters} {n : ℕ} {items : List ℕ} {count : ℕ} {w' s' : List ℕ} {r : Out (ℕ × Counters)} → Rebuilds w s c n items count w' s' r → InternsAs Grown (λ t. t) w s c n items count w' s' r
interns_as {w} {s} {c} {n} {items} {count} R = record {
  is = λ table u a H E l. R.is table a H ∙ ap (λ (y : Node). reply_of w s c (intern (length w) (length s) (node (tag y) (take count items)) a)) (ext_at u a E n l);
}

-- a child's measure is below that of all children
pub item_falls : {w₀ s₀ : List ℕ} {c₀ : Counters} {n : ℕ} {items₀ : List ℕ} {count : ℕ} {entries₀ w s items entries : List ℕ} {last : Counters} {i : ℕ} → Turn normalize Grown w₀ s₀ c₀ n items₀ count entries₀ w s items entries last i
    → i < count → {x : ℕ} → x ≡ get_or items i 0 → {t : ℕ} → 4 * n + 1 ≡ t → 4 * x + 4 < t
item_falls {n = n} T h {x} e q = let l : 3 * x + 2 < 3 * n = turn_falls T h e refl in omega (arith, l, q)

module _ {w s : List ℕ} {c : Counters} {n : ℕ} {entries : List ℕ} (P : Ready normalize Grown w s c n entries) where
  inside : n < c.nodes
  inside = omega (arith, P.inside, ext_length P.source P.view P.beside, P.holds.nodes)

  pub ready_range : InRange w s c n
  ready_range = record { lent = record { table = P.table; view = P.view; holds = P.holds }; inside = inside }

  pub ready_wide : {x : ℕ} → x ≡ n → InRange w s c x
  ready_wide e = range_wide e ready_range

  -- the measure of one of the cycle's functions and of one that it calls on the same node
  pub same_falls : (d e : ℕ) → d < e → {t : ℕ} → 4 * n + e ≡ t → 4 * n + d < t
  same_falls d e h q = omega (arith, h, q)

  module _ {x k : ℕ} (e : x ≡ n) (K : KindAt w s c x k) where
    kind_of : (table : ℕ) (a : Arena) → Holds table w s c a → k ≡ disc (kind (tag (at a n)))
    kind_of table a H = K.is table a H ∙ ap (λ (y : ℕ). disc (kind (tag (at a y)))) e

    pub list_ready : not (eqb k 7 || eqb k 8) ≡ false → ListReady w s c n k entries
    list_ready q =
        let p = kind_of P.table P.view P.holds in
        let t = list_tag (tag (at P.view n)) (ap (λ (y : ℕ). eqb y 7 || eqb y 8) (sym p) ∙ not-false (eqb k 7 || eqb k 8) q) in
        record { ready = P; side = t.0; tag_is = t.1; kind_is = p ∙ ap (λ (y : Tag). disc (kind y)) t.1 }

    pub other_ready : not (eqb k 7 || eqb k 8) ≡ true → OtherReady w s c n entries
    other_ready q =
        let p = kind_of P.table P.view P.holds in
        record { ready = P; other = other_tag (tag (at P.view n)) (ap (λ (y : ℕ). eqb y 7 || eqb y 8) (sym p) ∙ not-true (eqb k 7 || eqb k 8) q) }

  -- ---- its children
  module _ {r : Children} (L : AllChildren w s c n r) where
    pub children_ready : EachReady normalize Grown w s c n r.items r.count entries
    children_ready =
        let X = L.is P.table P.view P.holds in
        record { ready = P; long = X.long; few = X.few; low = ap (below n) X.is ∙ children_below P.table P.view P.holds.good n (omega (arith, inside, P.holds.nodes)) }

    module _ {w' s' items' entries' : List ℕ} {g : Out Counters} (E : DoesEach normalize Grown w s c n r.items r.count entries w' s' items' entries' g) {d : Counters} (q : g ≡ Ok d) where
      pub rebuilding : Rebuilding w' s' d n items' r.count
      rebuilding =
          let D = each_done (E.is P.table P.source P.view P.holds P.beside P.inside P.cache) q in
          let l : n < length P.view = omega (arith, inside, P.holds.nodes) in
          let x = ext_at P.view D.arena D.ext n l in
          let X = L.is P.table P.view P.holds in
          let y : length (take r.count r.items) ≡ r.count = length-take-le r.count r.items (omega (arith, X.long, X.few)) in
          record {
            lent = record { table = P.table; view = D.arena; holds = D.holds };
            inside = omega (arith, l, ext_length P.view D.arena D.ext, D.holds.nodes);
            long = D.long;
            count_is = sym y ∙ ap length X.is ∙ ap (λ (z : Node). length (children z)) (sym x);
            low = ap (λ (z : ℕ). below z (take r.count items')) D.holds.nodes ∙ D.low;
          }

-- ---- the node with what they became
module _ {w s : List ℕ} {c : Counters} {n : ℕ} {entries : List ℕ} (O : OtherReady w s c n entries) {r : Children} (L : AllChildren w s c n r) where
  other_rebuilt : Rebuilt normalize Grown (λ t. t) w s c n r.items r.count
  other_rebuilt = record {
    kids = λ table u a H E l. (L.is table a H).is ∙ ap children (ext_at u a E n l);
    step = λ table u a H E l b.
        at_other (length w) (length s) table u (sound_ext table E H.good) n l b
        (ap (λ (y : Node). list_kind (tag y)) (sym (ext_at u a E n l)) ∙ ap (λ (d : Arena). list_kind (tag (at d n))) (unique H O.ready.holds) ∙ O.other);
  }

  module _ {w' s' items' entries' : List ℕ} {g : Out Counters} (E : DoesEach normalize Grown w s c n r.items r.count entries w' s' items' entries' g) where
    pub other_refused : {v : Refusal} → g ≡ Err v → Does normalize Grown w s c n entries w' s' entries' (Err v)
    other_refused q = node_refused lawful other_rebuilt E q

    pub other_done : {d : Counters} → g ≡ Ok d → {w'' s'' : List ℕ} {i : Out (ℕ × Counters)} → Rebuilds w' s' d n items' r.count w'' s'' i → length w' ≡ length w → length s' ≡ length s → length w'' ≡ length w' → length s'' ≡ length s'
        → Does normalize Grown w s c n entries w'' s'' entries' i
    other_done q B lw ls lw' ls' = node_done lawful other_rebuilt E q (interns_as B) lw ls lw' ls'
