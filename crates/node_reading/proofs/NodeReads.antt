-- What is read in the words of a node is the node's: its kind, and the first child of a lambda, a named type or `Neg`.
use Prim.Native.Nat.{ℕ, ◌<◌}
use mathlib.Core.Path.{◌≡◌, refl, sym, ap, ◌∙◌, subst}
use mathlib.Core.Bool.{true, false, ◌||◌}
use mathlib.Core.List.{List, [], ◌∷◌}
use native.Mathlib.Omega.{arith}
use lib.ListN.{length, get_or}
use lib.Dec.{eqb}
use borrow.Author.Tests.{eqb-true}
use Rattle.words.specs.Words.{head_kind, child}
use Rattle.types.specs.Kind.{disc, body_count}
use Rattle.types.specs.Node.{positive, negative, Tag, members, bound, var, neg, form, primitive, list, lambda, attrset, named, field, Node, node, tag, kind, children, head_of, encode, encode_in, formed}
use Rattle.types.specs.Arena.{Arena, at}
use Rattle.types.specs.Fault.{children_in}
use Rattle.types.specs.Memory.{Holds}
use Rattle.types.specs.declared.Counters.{Counters}
use Rattle.types.proofs.Tests.{true_false}
use Rattle.types.proofs.Nodes.{encode_kind, length_child_words, formed_parts}
use Rattle.types.proofs.Faults.{children_encode}
use Rattle.types.proofs.Sound.{at_formed, child_lower}
use Rattle.node_store.specs.Inner.Stored.{InRange, NodeAt}
use Rattle.node_store.proofs.Offspring.{as_many, child_is}
use Rattle.node_store.specs.Inner.Children.{ChildWords}
use Rattle.node_reading.specs.Inner.{KindAt, ParentAt, FirstChild}

pub no_head : (ws : List ℕ) → length ws ≡ 0 → 0 ≡ head_kind (get_or ws 0 0)
unfolding head_kind
no_head [] e = refl
no_head (h ∷ b) e = absurd (omega arith)

head_encode : (x : Node) → get_or (encode x) 0 0 ≡ head_of x
unfolding encode_in
head_encode x = refl

-- the kind in a formed node's words is the node's
pub kind_encode : (x : Node) → formed x ≡ true → head_kind (get_or (encode x) 0 0) ≡ disc (kind (tag x))
kind_encode x e = ap head_kind (head_encode x) ∙ encode_kind x e

module _ {w s : List ℕ} {c : Counters} {n : ℕ} (R : InRange w s c n) where
  pub kind_read : {ws : List ℕ} {r : ℕ} → NodeAt w s c n ws → r ≡ head_kind (get_or ws 0 0) → KindAt w s c n r
  kind_read N e = record {
    is = λ table a H.
        let l : n < length a = omega (arith, R.inside, H.nodes) in
        e ∙ ap (λ (x : List ℕ). head_kind (get_or x 0 0)) (N.is table a H) ∙ kind_encode (at a n) (at_formed table a H.good n l);
  }

-- ---- the first child
-- a lambda has two children, a named type and `Neg` one
least_one : (t : Tag) (cs : List ℕ) → formed (node t cs) ≡ true → (eqb (disc (kind t)) 5 || (eqb (disc (kind t)) 9 || eqb (disc (kind t)) 10)) ≡ true → 0 < length cs
unfolding body_count
least_one (members positive) cs e k = absurd (true_false (sym k))
least_one (members negative) cs e k = absurd (true_false (sym k))
least_one (bound positive) cs e k = absurd (true_false (sym k))
least_one (bound negative) cs e k = absurd (true_false (sym k))
least_one (var v) cs e k = absurd (true_false (sym k))
least_one neg cs e k = let q : length cs ≡ 1 = sym (length_child_words [] cs) ∙ eqb-true _ 1 (formed_parts neg cs e).counted in omega (arith, q)
least_one (form (primitive c)) cs e k = absurd (true_false (sym k))
least_one (form list) cs e k = absurd (true_false (sym k))
least_one (form lambda) cs e k = let q : length cs ≡ 2 = sym (length_child_words [] cs) ∙ eqb-true _ 2 (formed_parts (form lambda) cs e).counted in omega (arith, q)
least_one (form (attrset fs d o)) cs e k = absurd (true_false (sym k))
least_one (form (named m)) cs e k = let q : length cs ≡ 1 = sym (length_child_words (field false m ∷ []) cs) ∙ eqb-true _ 1 (formed_parts (form (named m)) cs e).counted in omega (arith, q)

pub first_there : (x : Node) → formed x ≡ true → (eqb (disc (kind (tag x))) 5 || (eqb (disc (kind (tag x))) 9 || eqb (disc (kind (tag x))) 10)) ≡ true → 0 < length (children x)
first_there (node t cs) = least_one t cs

module _ {w s : List ℕ} {c : Counters} {n : ℕ} (P : ParentAt w s c n) where
  pub parent_here : InRange w s c n
  parent_here = record { lent = P.lent; inside = P.inside }

  within : {table : ℕ} {a : Arena} → Holds table w s c a → n < length a
  within H = subst (λ (k : ℕ). n < k) H.nodes P.inside

  first : {table : ℕ} {a : Arena} (H : Holds table w s c a) → 0 < length (children (at a n))
  first {table} {a} H =
      first_there (at a n) (at_formed table a H.good n (within H)) (ap (λ (k : ℕ). eqb k 5 || (eqb k 9 || eqb k 10)) (sym (P.kind.is table a H)) ∙ P.parent)

  -- and it has a lower number
  pub first_lower : {table : ℕ} {a : Arena} → Holds table w s c a → get_or (children (at a n)) 0 0 < n
  first_lower {table} {a} H = child_lower table a H.good n (within H) 0 (first H)

  pub child_there : {ws b : List ℕ} → NodeAt w s c n ws → ChildWords ws b → 0 < length b
  child_there {ws} W u =
      let H = P.lent.holds in
      let a = P.lent.view in
      let e : length (children_in ws) ≡ length (children (at a n)) = ap (λ (x : List ℕ). length (children_in x)) (W.is _ a H) ∙ ap length (children_encode (at a n) (at_formed _ a H.good n (within H))) in
      let f = first H in
      omega (arith, e, f, as_many u)

  pub child_read : {ws b : List ℕ} {r x : ℕ} → NodeAt w s c n ws → ChildWords ws b → x ≡ child (get_or b 0 0) → r ≡ x → FirstChild w s c n r
  child_read W u e q = record {
    is = λ table a H.
        q ∙ child_is u 0 e ∙ ap (λ (x : List ℕ). get_or (children_in x) 0 0) (W.is table a H) ∙ ap (λ (x : List ℕ). get_or x 0 0) (children_encode (at a n) (at_formed table a H.good n (within H)));
  }

  pub first_range : {m : ℕ} → FirstChild w s c n m → InRange w s c m
  first_range F =
      let H = P.lent.holds in
      let l = first_lower H in
      let e = F.is _ P.lent.view H in
      record { lent = P.lent; inside = omega (arith, l, e, P.inside) }
