-- The loop over the children of a node lists those that remain, one after another.
use Prim.Native.Nat.{ℕ, ◌+◌, ◌<◌, ◌≤◌}
use mathlib.Core.Path.{◌≡◌, refl, sym, ap, ◌∙◌}
use mathlib.Core.Bool.{Bool, true, false}
use mathlib.Core.List.{List, [], ◌∷◌, ◌++◌, map, append-nil}
use native.Mathlib.Omega.{arith}
use native.Mathlib.Numerals.{add-one}
use lib.ListN.{length, get_or, take, set, replicate, length-append, length-set, length-map, get_or-map}
use lib.Seq.{take-suc, take_all, take-suc-set}
use Rattle.words.specs.Words.{child}
use Rattle.types.specs.Node.{Node, node, children, kind, data_of, child_words, formed}
use Rattle.types.specs.Arena.{Arena, at}
use Rattle.types.specs.Fault.{children_in}
use Rattle.types.specs.Memory.{Holds}
use Rattle.types.specs.declared.Counters.{Counters}
use Rattle.types.proofs.Nodes.{formed_parts, few_words, length_child_words}
use Rattle.types.proofs.Faults.{children_encode}
use Rattle.types.proofs.Sound.{at_formed, child_lower}
use Rattle.bits.proofs.Sets.{has_none}
use Rattle.node_store.specs.Inner.Stored.{InRange, NodeAt}
use Rattle.node_store.specs.Inner.Children.{ChildWords}
use Rattle.node_store.proofs.Offspring.{as_many}
use Rattle.simplification.specs.Pass.{no_variable, is_removable, remaining}
use Rattle.rebuilding.specs.Inner.Children.{setting, Agrees, Lists, Drops, Space, unless, Adds, AllChildren, Remains}
use Rattle.rebuilding.specs.declared.children.Children.{Children}
use Rattle.rebuilding.proofs.Dropping.{none_removable}

-- ---- the definition, member by member
remaining_snoc : (R : ℕ → Bool) (a : Arena) (cs : List ℕ) (m : ℕ) → remaining R a (cs ++ (m ∷ [])) ≡ remaining R a cs ++ unless (is_removable R a m) m
unfolding remaining
remaining_snoc R a [] m = go (is_removable R a m)
  where
    go : (b : Bool) → elim b as (λ _. List ℕ) [ true ↦ [] | false ↦ m ∷ [] ] ≡ unless b m
    go true = refl
    go false = refl
remaining_snoc R a (c ∷ cs) m = go (is_removable R a c) (remaining_snoc R a cs m)
  where
    go : (b : Bool) → remaining R a (cs ++ (m ∷ [])) ≡ remaining R a cs ++ unless (is_removable R a m) m
        → elim b as (λ _. List ℕ) [ true ↦ remaining R a (cs ++ (m ∷ [])) | false ↦ c ∷ remaining R a (cs ++ (m ∷ [])) ]
        ≡ elim b as (λ _. List ℕ) [ true ↦ remaining R a cs | false ↦ c ∷ remaining R a cs ] ++ unless (is_removable R a m) m
    go true e = e
    go false e = ap (λ (l : List ℕ). c ∷ l) e

remaining_all : (a : Arena) (cs : List ℕ) → remaining no_variable a cs ≡ cs
unfolding remaining
remaining_all a [] = refl
remaining_all a (c ∷ cs) = rw (remaining, none_removable a c) (ap (λ (l : List ℕ). c ∷ l) (remaining_all a cs))

-- a node has at most 65 children
few_children : (x : Node) → formed x ≡ true → length (children x) ≤ 65
few_children (node t cs) e =
    let n = few_words (kind t) (data_of t).dynamic _ (formed_parts t cs e).counted in
    omega (arith, n, length-append (data_of t).numbers (child_words (data_of t).fields cs), length_child_words (data_of t).fields cs)

-- the children in a stored node's words are the node's
module _ {w s : List ℕ} {c : Counters} {n : ℕ} (I : InRange w s c n) {ws : List ℕ} (N : NodeAt w s c n ws) where
  node_formed : {table : ℕ} {a : Arena} → Holds table w s c a → formed (at a n) ≡ true
  node_formed {table} {a} H = at_formed table a H.good n (omega (arith, I.inside, H.nodes))

  pub children_read : {table : ℕ} {a : Arena} → Holds table w s c a → children_in ws ≡ children (at a n)
  children_read {table} {a} H = ap children_in (N.is table a H) ∙ children_encode (at a n) (node_formed H)

  pub few_read : length (children_in ws) ≤ 65
  few_read = let H = I.lent.holds in omega (arith, ap length (children_read H), few_children (at I.lent.view n) (node_formed H))

-- ---- one member
module _ {items : List ℕ} {count m : ℕ} {dropped : Bool} where
  pub not_added : Space items count → dropped ≡ true → Adds dropped m items count items count
  not_added S e = record { is = rw e (sym (append-nil (take count items))); long = S.long; few = omega arith }

  pub added : Space items count → dropped ≡ false → Adds dropped m items count (set items count m) (count + 1)
  added S e = record {
    is = rw (e, add-one count) (take-suc-set items count m (omega (arith, S.long, S.few)));
    long = length-set items count m ∙ S.long;
    few = omega arith;
  }

-- ---- i children passed
pub record Copied (w s : List ℕ) (c : Counters) (n : ℕ) (removable : List ℕ) (keep : Bool) (b items : List ℕ) (count i : ℕ) : Type 0 where
  pub range : InRange w s c n
  pub read : (table : ℕ) (a : Arena) → Holds table w s c a → map child b ≡ children (at a n)
  pub few_words : length b ≤ 65
  pub turn : i ≤ length b
  pub few : count ≤ i
  pub long : length items ≡ 65
  pub is : (table : ℕ) (a : Arena) (R : ℕ → Bool) → Holds table w s c a → Agrees removable R a n → take count items ≡ remaining (setting keep R) a (take i (children (at a n)))

module _ {w s : List ℕ} {c : Counters} {n : ℕ} {removable : List ℕ} {keep : Bool} {b : List ℕ} where
  pub copied_start : {j : ℕ} {ws items : List ℕ} → InRange w s c n → length items ≡ 65 → j ≡ n → NodeAt w s c j ws → ChildWords ws b → Copied w s c n removable keep b items 0 0
  unfolding remaining
  copied_start I l e N B = record {
    range = I;
    read = λ table a H. B.is ∙ children_read I (rw e at N) H;
    few_words = omega (arith, as_many B, few_read I (rw e at N));
    turn = omega arith;
    few = omega arith;
    long = l;
    is = λ table a R H A. refl;
  }

  module _ {items : List ℕ} {count i : ℕ} (C : Copied w s c n removable keep b items count i) where
    -- the next child
    module _ (l : i < length b) {m : ℕ} (e : m ≡ child (get_or b i 0)) where
      module _ {table : ℕ} {a : Arena} (H : Holds table w s c a) where
        next_in : i < length (children (at a n))
        next_in = omega (arith, l, length-map b child, ap length (C.read table a H))

        next_is : m ≡ get_or (children (at a n)) i 0
        unfolding child
        next_is = e ∙ sym (get_or-map child b i 0) ∙ ap (λ (cs : List ℕ). get_or cs i 0) (C.read table a H)

        next_lower : m < n
        next_lower = let z = child_lower table a H.good n (omega (arith, C.range.inside, H.nodes)) i next_in in omega (arith, z, next_is)

      pub copied_here : InRange w s c m
      copied_here = let z = next_lower C.range.lent.holds in record { lent = C.range.lent; inside = omega (arith, z, C.range.inside) }

      pub copied_more : {d : Bool} {items' : List ℕ} {r : ℕ} → Drops w s c m removable keep d → Adds d m items count items' r → Copied w s c n removable keep b items' r (i + 1)
      copied_more {d} D A = record {
        range = C.range;
        read = C.read;
        few_words = C.few_words;
        turn = omega arith;
        few = omega (arith, A.few, C.few);
        long = A.long;
        is = λ table a R H G.
            let cs = children (at a n) in
            let T = setting keep R in
            let g : d ≡ is_removable T a m = D.is table a R n H G (next_lower H) in
            let p : take i cs ++ (m ∷ []) ≡ take (i + 1) cs = ap (λ (x : ℕ). take i cs ++ (x ∷ [])) (next_is H) ∙ sym (ap (λ (x : ℕ). take x cs) (add-one i) ∙ take-suc cs i 0 (next_in H)) in
            A.is ∙ (λ k. C.is table a R H G k ++ unless (g k) m) ∙ sym (remaining_snoc T a (take i cs) m) ∙ ap (remaining T a) p;
      }

    pub copied_done : length b ≤ i → Remains w s c n removable keep (record { items = items; count = count })
    copied_done l = record {
      is = λ table a R H G. record {
        is = C.is table a R H G ∙ ap (remaining (setting keep R) a) (take_all i (children (at a n)) (omega (arith, l, length-map b child, ap length (C.read table a H))));
        long = C.long;
        few = omega (arith, C.few, C.turn, C.few_words);
      };
    }

-- ---- where no variable is removable all remain
module _ {w s : List ℕ} {c : Counters} {n : ℕ} {r : Children} where
  pub all_listed : {removable : List ℕ} → Remains w s c n removable true r → {table : ℕ} {a : Arena} {R : ℕ → Bool} → Holds table w s c a → Agrees removable R a n → Lists r.items r.count (children (at a n))
  all_listed M {table} {a} {R} H A =
      let L = M.is table a R H A in
      record { is = L.is ∙ remaining_all a (children (at a n)); long = L.long; few = L.few }

  pub all_remain : Remains w s c n (replicate 64 0) true r → AllChildren w s c n r
  all_remain M = record { is = λ table a H. all_listed M {R = no_variable} H (record { is = λ u v l e. has_none 64 u }) }
