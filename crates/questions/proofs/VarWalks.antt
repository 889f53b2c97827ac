-- The loop from node 0 up knows which nodes have a variable, since each node's children come before it.
use Prim.Native.Nat.{ℕ, suc, ◌+◌, ◌<◌, ◌≤◌}
use mathlib.Core.Path.{◌≡◌, refl, sym, ap, ◌∙◌, subst}
use mathlib.Core.Bool.{Bool, true, false, ◌&&◌, ◌||◌}
use mathlib.Core.List.{List, map}
use native.Mathlib.Omega.{arith}
use native.Mathlib.Decide.{ℕ_discrete}
use lib.ListN.{length, get_or, drop, replicate, length-replicate, length-map, drop_of_length-le, get_or-map}
use lib.Seq.{drop-cons}
use lib.Dec.{eqb}
use borrow.Author.Tests.{eq-eqb, ne_eqb}
use Rattle.words.specs.Words.{head_kind, child}
use Rattle.types.specs.Node.{Tag, tag, kind, children}
use Rattle.types.specs.Kind.{disc}
use Rattle.types.specs.Arena.{Arena, at}
use Rattle.types.specs.Fault.{children_in}
use Rattle.types.specs.Memory.{Holds}
use Rattle.types.specs.declared.Counters.{Counters}
use Rattle.types.proofs.Faults.{children_encode}
use Rattle.types.proofs.Sound.{at_formed, children_below, map_below, fold_at}
use Rattle.bits.specs.Bits.{has}
use Rattle.bits.specs.Inner.{Row}
use Rattle.bits.proofs.Sets.{has_none}
use Rattle.node_store.specs.Inner.Stored.{InRange, NodeAt}
use Rattle.walks.specs.Inner.Asked.{Says}
use Rattle.walks.specs.Reach.{some_of}
use Rattle.node_store.specs.Inner.Children.{ChildWords}
use Rattle.walks.proofs.Marks.{root_small}
use Rattle.questions.specs.Vars.{kind_has, has_var}
use Rattle.questions.specs.Inner.Vars.{words_have, Learned}
use Rattle.node_reading.proofs.NodeReads.{kind_encode}

-- ---- one child after another: the children still to come decide
pub record Looking (b met : List ℕ) (from i : ℕ) : Type 0 where
  pub same : some_of (drop from (map (has met) (map child b))) ≡ some_of (drop i (map (has met) (map child b)))

-- the next of several tests, and those after it
next_of : (f : ℕ → Bool) (cs : List ℕ) (i : ℕ) → i < length cs → some_of (drop i (map f cs)) ≡ (f (get_or cs i 0) || some_of (drop (i + 1) (map f cs)))
unfolding some_of
next_of f cs i l =
    let k : i < length (map f cs) = omega (arith, l, length-map cs f) in
    let e : suc i ≡ i + 1 = omega arith in
    ap some_of (drop-cons (map f cs) i (f 0) k) ∙ (λ j. get_or-map f cs i 0 j || some_of (drop (e j) (map f cs)))

module _ {b met : List ℕ} {from : ℕ} where
  module _ {i : ℕ} (L : Looking b met from i) where
    split : {m : ℕ} {t : Bool} → i < length b → m ≡ child (get_or b i 0) → t ≡ has met m → some_of (drop from (map (has met) (map child b))) ≡ (t || some_of (drop (i + 1) (map (has met) (map child b))))
    unfolding child
    split h e q =
        let k : i < length (map child b) = omega (arith, length-map b child) in
        let f = e ∙ sym (get_or-map child b i 0) in
        L.same ∙ next_of (has met) (map child b) i k ∙ ap (λ (x : Bool). x || some_of (drop (i + 1) (map (has met) (map child b)))) (sym (q ∙ ap (has met) f))

    pub looking_small : {m : ℕ} → m ≡ child (get_or b i 0) → m < 4096
    unfolding child
    looking_small e = omega (arith, e)

    pub looking_found : {m : ℕ} {t : Bool} → i < length b → m ≡ child (get_or b i 0) → t ≡ has met m → t ≡ true → true ≡ some_of (drop from (map (has met) (map child b)))
    looking_found h e q p = sym (split h e q ∙ rw p)

    pub looking_more : {m : ℕ} {t : Bool} → i < length b → m ≡ child (get_or b i 0) → t ≡ has met m → t ≡ false → Looking b met from (i + 1)
    looking_more h e q p = record { same = split h e q ∙ rw p }

    pub looking_done : length b ≤ i → false ≡ some_of (drop from (map (has met) (map child b)))
    unfolding some_of
    looking_done h = sym (L.same ∙ ap some_of (drop_of_length-le (map (has met) (map child b)) {i = i} (omega (arith, h, length-map (map child b) (has met), length-map b child))))

-- ---- the words of one node
module _ (ws met : List ℕ) (skip : Bool) {k : ℕ} (e : k ≡ head_kind (get_or ws 0 0)) where
  at_kind : kind_has skip k (map (has met) (children_in ws)) ≡ words_have skip (has met) ws
  unfolding words_have
  at_kind = ap (λ (x : ℕ). kind_has skip x (map (has met) (children_in ws))) e

  pub is_variable : k ≡ 3 → true ≡ words_have skip (has met) ws
  is_variable q = sym (rw (eq-eqb k 3 q) at (sym at_kind))

  module _ {b : List ℕ} (B : ChildWords ws b) {t : Bool} (f : k ≡ 3 → ⊥) where
    pub child_decides : (skip && eqb k 5) ≡ false → t ≡ some_of (drop 0 (map (has met) (map child b))) → t ≡ words_have skip (has met) ws
    child_decides p q = q ∙ ap (λ (cs : List ℕ). some_of (drop 0 (map (has met) cs))) B.is ∙ sym (rw (ne_eqb k 3 f, p) at (sym at_kind))

    pub body_decides : (skip && eqb k 5) ≡ true → t ≡ some_of (drop 1 (map (has met) (map child b))) → t ≡ words_have skip (has met) ws
    body_decides p q = q ∙ ap (λ (cs : List ℕ). some_of (drop 1 (map (has met) cs))) B.is ∙ sym (rw (ne_eqb k 3 f, p) at (sym at_kind))

-- where the test is right for each child it is right for the node
at_node : (skip : Bool) (f : ℕ → Bool) (table : ℕ) {w s : List ℕ} {c : Counters} (a : Arena) → Holds table w s c a → (n : ℕ) → n < c.nodes → {ws : List ℕ} → NodeAt w s c n ws → ((m : ℕ) → m < n → f m ≡ has_var skip a m)
    → words_have skip f ws ≡ has_var skip a n
unfolding words_have has_var
at_node skip f table a H n l {ws} N h =
    let k : n < length a = omega (arith, l, H.nodes) in
    let F = at_formed table a H.good n k in
    ap (words_have skip f) (N.is table a H)
    ∙ (λ i. kind_has skip (kind_encode (at a n) F i) (map f (children_encode (at a n) F i)))
    ∙ ap (kind_has skip (disc (kind (tag (at a n))))) (map_below f (has_var skip a) n (children (at a n)) (children_below table a H.good n k) h)
    ∙ sym (fold_at (λ (t : Tag) (bs : List Bool). kind_has skip (disc (kind t)) bs) table a H.good n k)

-- ---- one more node
or_none : (b : Bool) {c : Bool} → c ≡ false → (b || c) ≡ b
or_none true e = refl
or_none false e = e

-- ---- the nodes passed
pub record Knowing (w s : List ℕ) (c : Counters) (skip : Bool) (root : ℕ) (met : List ℕ) (n : ℕ) : Type 0 where
  pub range : InRange w s c root
  pub turn : n ≤ root
  pub long : length met ≡ 64
  pub known : (table : ℕ) (a : Arena) → Holds table w s c a → (m : ℕ) → m < n → has met m ≡ has_var skip a m
  pub rest : (m : ℕ) → n ≤ m → has met m ≡ false

module _ {w s : List ℕ} {c : Counters} {skip : Bool} {root : ℕ} where
  pub knowing_start : InRange w s c root → Knowing w s c skip root (replicate 64 0) 0
  knowing_start R = record {
    range = R;
    turn = omega arith;
    long = length-replicate {A = ℕ} 64 0;
    known = λ table a H m l. absurd (omega arith);
    rest = λ m l. has_none 64 m;
  }

  module _ {met : List ℕ} {n : ℕ} (K : Knowing w s c skip root met n) where
    pub knowing_here : n < root → InRange w s c n
    knowing_here l = record { lent = K.range.lent; inside = omega (arith, l, K.range.inside) }

    pub knowing_row : n < root → Row met n
    knowing_row l = record { long = K.long; inside = root_small (knowing_here l) }

    pub knowing_more : n < root → {ws t : List ℕ} → NodeAt w s c n ws → Learned (words_have skip (has met) ws) n met t → Knowing w s c skip root t (n + 1)
    knowing_more l {ws} {t} N L = record { range = K.range; turn = omega arith; long = L.long ∙ K.long; known = known; rest = λ m k. L.old m (λ q. omega (arith, k, q)) ∙ K.rest m (omega arith) }
      where
        new : (table : ℕ) (a : Arena) → Holds table w s c a → has t n ≡ has_var skip a n
        new table a H = L.new ∙ or_none (words_have skip (has met) ws) (K.rest n (omega arith)) ∙ at_node skip (has met) table a H n (knowing_here l).inside N (K.known table a H)

        known : (table : ℕ) (a : Arena) → Holds table w s c a → (m : ℕ) → m < n + 1 → has t m ≡ has_var skip a m
        known table a H m k = go (ℕ_discrete m n)
          where
            go : Dec (m ≡ n) → has t m ≡ has_var skip a m
            go (yes q) = subst (λ (x : ℕ). has t x ≡ has_var skip a x) (sym q) (new table a H)
            go (no q) = L.old m q ∙ K.known table a H m (omega (arith, k, q))

    pub knowing_done : root ≤ n → {ws : List ℕ} {b : Bool} → NodeAt w s c root ws → b ≡ words_have skip (has met) ws → Says (has_var skip) w s c root b
    knowing_done h N e = record {
      is = λ table a H. e ∙ at_node skip (has met) table a H root K.range.inside N (λ m l. K.known table a H m (omega (arith, l, h)));
    }
