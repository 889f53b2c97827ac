-- The search for a name that the target's table lacks: in a node's words, and among the nodes that are reachable from the root.
use Prim.Native.Nat.{ℕ, ◌+◌, ◌-◌, ◌<◌, ◌≤◌}
use mathlib.Core.Path.{◌≡◌, refl, sym, ap, ap₂, ◌∙◌}
use mathlib.Core.Bool.{Bool, true, false, not, ◌&&◌}
use mathlib.Core.List.{List, [], ◌∷◌, map}
use native.Mathlib.Omega.{arith}
use native.Mathlib.Decide.{ℕ_discrete}
use lib.ListN.{length, get_or, take, drop}
use borrow.Author.Tests.{not-true, not-false}
use Rattle.words.specs.Words.{head_kind, head_dynamic, field_name}
use Rattle.types.specs.Kind.{disc}
use Rattle.types.specs.Node.{primitive, list, lambda, attrset, named, Tag, members, bound, var, neg, form, Node, node, tag, positive, negative, kind, data_of, field_names, names, body, head_of, encode, encode_in, field_of, formed}
use Rattle.types.specs.Arena.{Arena, at}
use Rattle.types.specs.Memory.{Holds}
use Rattle.types.specs.declared.Counters.{Counters}
use Rattle.types.proofs.Tests.{true_false, and_true, both, not_true as not_so}
use Rattle.types.proofs.Nodes.{cons, Formed, formed_parts, length_encode, encode_kind, encode_dynamic}
use Rattle.types.proofs.Sound.{at_formed}
use Rattle.types.proofs.Addresses.{start_room}
use Rattle.bits.specs.Bits.{has}
use Rattle.node_order.specs.WordsOrder.{field_count}
use Rattle.node_order.specs.Inner.{FieldCount}
use Rattle.node_order.proofs.Fielded.{fielded}
use Rattle.node_store.specs.Inner.Stored.{InRange, NodeAt}
use Rattle.walks.specs.Inner.Asked.{Says}
use Rattle.walks.specs.Inner.Sets.{ReachIn}
use Rattle.walks.proofs.Reaching.{reaches_place, place_reaches}
use Rattle.importing.specs.Import.{lacks_one, lacks}
use Rattle.importing.specs.Inner.Names.{by_map, LacksOwn, LacksMet}
use Rattle.importing.proofs.Lacks.{lacks_below, lacks_reached}

-- ---- the names in a node's words
words_names : (ws : List ℕ) → field_names (map field_of ws) ≡ map field_name ws
words_names [] = refl
words_names (w ∷ ws) = cons refl (words_names ws)

by_fields : (t : Tag) (cs : List ℕ) → Formed t cs → 4 ≤ disc (kind t) → map field_name (take (field_count (disc (kind t)) (data_of t).dynamic (length (body (node t cs)))) (body (node t cs))) ≡ names t
by_fields t cs F h = sym (ap field_names (fielded t cs F h).fields ∙ words_names (take (field_count (disc (kind t)) (data_of t).dynamic (length (body (node t cs)))) (body (node t cs))))

names_read : (t : Tag) (cs : List ℕ) → Formed t cs → map field_name (take (field_count (disc (kind t)) (data_of t).dynamic (length (body (node t cs)))) (body (node t cs))) ≡ names t
unfolding field_count
names_read (members positive) cs F = refl
names_read (members negative) cs F = refl
names_read (bound positive) cs F = refl
names_read (bound negative) cs F = refl
names_read (var v) cs F = refl
names_read neg cs F = refl
names_read (form (primitive c)) cs F = refl
names_read (form list) cs F = refl
names_read (form lambda) cs F = refl
names_read (form (attrset fs d o)) cs F = by_fields (form (attrset fs d o)) cs F (omega arith)
names_read (form (named n)) cs F = by_fields (form (named n)) cs F (omega arith)

pub own_told : {ks ws : List ℕ} {m : ℕ} {r : Bool} → FieldCount (get_or ws 0 0) (length ws - 1) m → r ≡ lacks_one (by_map ks) (map field_name (take (m + 1 - 1) (drop 1 ws))) → LacksOwn ks ws r
unfolding encode_in
own_told {ks} {ws} {m} {r} C q = record { is = λ x g c. go x g c }
  where
    go : (x : Node) → formed x ≡ true → ws ≡ encode x → r ≡ lacks_one (by_map ks) (names (tag x))
    go (node t cs) g c =
        let x = node t cs in
        let one : m + 1 - 1 ≡ m = omega arith in
        let l = ap length c ∙ length_encode x in
        let n : length ws - 1 ≡ length (body x) = omega (arith, l) in
        let h : get_or ws 0 0 ≡ head_of x = ap (λ (z : List ℕ). get_or z 0 0) c in
        let k : m ≡ field_count (disc (kind t)) (data_of t).dynamic (length (body x))
        = C.value ∙ ap₂ (λ (z i : ℕ). field_count (head_kind z) (head_dynamic z) i) h n ∙ (λ i. field_count (encode_kind x g i) (encode_dynamic x g i) (length (body x))) in
        q ∙ ap₂ (λ (i : ℕ) (z : List ℕ). lacks_one (by_map ks) (map field_name (take i (drop 1 z)))) (one ∙ k) c
        ∙ ap (lacks_one (by_map ks)) (names_read t cs (formed_parts t cs g))

-- ---- one node, if the set has it
module _ {w s : List ℕ} {c : Counters} {n : ℕ} (I : InRange w s c n) where
  pub node_there : {ws : List ℕ} → NodeAt w s c n ws → 0 < length ws
  node_there N = let H = I.lent.holds in let l = ap length (N.is I.lent.table I.lent.view H) ∙ length_encode (at I.lent.view n) in omega (arith, l)

  module _ {ks met : List ℕ} {t : Bool} (e : t ≡ has met n) where
    pub unmet : not t ≡ true → LacksMet w s c n met ks false
    unmet p = record { is = λ table a H. sym (rw (sym e ∙ not-true t p)) }

    pub met_told : not t ≡ false → {ws : List ℕ} → NodeAt w s c n ws → {r : Bool} → LacksOwn ks ws r → LacksMet w s c n met ks r
    met_told p N L = record {
      is = λ table a H.
          L.is (at a n) (at_formed table a H.good n (omega (arith, I.inside, H.nodes))) (N.is table a H)
          ∙ sym (rw (sym e ∙ not-false t p));
    }

-- ---- the nodes passed
pub record Searching (ks w s : List ℕ) (c : Counters) (root : ℕ) (met : List ℕ) (n : ℕ) : Type 0 where
  pub range : InRange w s c root
  pub long : length ks ≡ 4096
  pub reach : ReachIn w s c root met
  pub none : (table : ℕ) (a : Arena) → Holds table w s c a → (m : ℕ) → m < n → (has met m && lacks_one (by_map ks) (names (tag (at a m)))) ≡ false

module _ {ks w s : List ℕ} {c : Counters} {root : ℕ} {met : List ℕ} where
  pub searching_start : InRange w s c root → length ks ≡ 4096 → ReachIn w s c root met → Searching ks w s c root met 0
  searching_start I l R = record { range = I; long = l; reach = R; none = λ table a H m k. absurd (omega arith) }

  module _ {n : ℕ} (S : Searching ks w s c root met n) where
    few : c.nodes ≤ 4096
    few = let H = S.range.lent.holds in omega (arith, start_room H, H.few_starts)

    pub searching_here : n < c.nodes → InRange w s c n
    searching_here l = record { lent = S.range.lent; inside = l }

    pub searching_long : length ks ≡ 4096
    searching_long = S.long

    pub searching_found : n < c.nodes → {r : Bool} → LacksMet w s c n met ks r → r ≡ true → Says (lacks (by_map ks)) w s c root true
    searching_found l L e = record {
      is = λ table a H.
          let p = and_true (has met n) _ (sym (L.is table a H) ∙ e) in
          let k : root < length a = omega (arith, S.range.inside, H.nodes) in
          let R = reaches_place table a H.good n root k (sym (S.reach.is table a H n (let z = few in omega (arith, z, l))) ∙ p.0) in
          sym (lacks_below (by_map ks) table a H.good R.place k p.1);
    }

    pub searching_more : {r : Bool} → LacksMet w s c n met ks r → r ≡ false → Searching ks w s c root met (n + 1)
    searching_more L e = record { range = S.range; long = S.long; reach = S.reach; none = λ table a H m k. go table a H m k (ℕ_discrete m n) }
      where
        go : (table : ℕ) (a : Arena) → Holds table w s c a → (m : ℕ) → m < n + 1 → Dec (m ≡ n) → (has met m && lacks_one (by_map ks) (names (tag (at a m)))) ≡ false
        go table a H m k (yes q) = ap (λ (i : ℕ). has met i && lacks_one (by_map ks) (names (tag (at a i)))) q ∙ sym (L.is table a H) ∙ e
        go table a H m k (no q) = S.none table a H m (omega (arith, k, q))

    pub searching_done : c.nodes ≤ n → Says (lacks (by_map ks)) w s c root false
    searching_done h = record {
      is = λ table a H.
          let k : root < length a = omega (arith, S.range.inside, H.nodes) in
          sym (not_so (lacks (by_map ks) a root) (λ e.
          let R = lacks_reached (by_map ks) table a H.good root k e in
          let q = S.reach.is table a H R.node (let z = few in omega (arith, z, R.inside, H.nodes)) ∙ place_reaches table a H.good R.node R.reachable.place k in
          true_false (sym (both q R.lacks_own) ∙ S.none table a H R.node (omega (arith, R.inside, H.nodes, h)))));
    }
