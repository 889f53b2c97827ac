-- What the words of a node say of its child i is true of the node, in any arena that memory holds.
use Prim.Native.Nat.{ℕ, ◌<◌}
use mathlib.Core.Path.{◌≡◌, ap, ◌∙◌, subst}
use mathlib.Core.Bool.{Bool, true}
use mathlib.Core.List.{List}
use native.Mathlib.Omega.{arith}
use lib.ListN.{length, get_or}
use Rattle.words.specs.Words.{child}
use Rattle.types.specs.Bytes.{bytes}
use Rattle.types.specs.Kind.{disc}
use Rattle.types.specs.Node.{tag, kind, children, encode, formed, guess}
use Rattle.types.specs.Arena.{Arena, at}
use Rattle.types.specs.Memory.{Holds}
use Rattle.types.specs.Fault.{children_in}
use Rattle.types.specs.declared.Counters.{Counters}
use Rattle.types.proofs.Nodes.{guess_encode}
use Rattle.types.proofs.Faults.{children_encode}
use Rattle.types.proofs.Sound.{at_formed, child_lower}
use Rattle.names.specs.Table.{split}
use Rattle.spelling.specs.declared.Spelling.{Spelling}
use Rattle.node_store.specs.Inner.Stored.{InRange, NodeAt}
use Rattle.node_store.specs.Inner.Children.{ChildWords}
use Rattle.node_reading.specs.Inner.{KindAt}
use Rattle.node_store.proofs.Offspring.{as_many, child_is}
use Rattle.appending.specs.Parts.{when}
use Rattle.text_writing.specs.Text.{parens, before}
use Rattle.appending.specs.Inner.{Writes}
use Rattle.text_writing.specs.Inner.Formed.{IsFormed}
use Rattle.text_writing.specs.Inner.Children.{ChildOf, encloses, IsChild, Encloses, Opens, Closes}

module _ {w s : List ℕ} {c : Counters} {n i : ℕ} (C : ChildOf w s c n i) where
  -- ---- in any arena that memory holds
  module _ {table : ℕ} {a : Arena} (H : Holds table w s c a) where
    node_formed : formed (at a n) ≡ true
    node_formed = at_formed table a H.good n (omega (arith, C.inside, H.nodes))

  module _ {x : ℕ} (e : x ≡ n) where
    pub parent_range : InRange w s c x
    parent_range = record { lent = C.lent; inside = omega (arith, C.inside, e) }

    module _ {ws : List ℕ} (N : NodeAt w s c x ws) where
      words_of : {table : ℕ} {a : Arena} → Holds table w s c a → ws ≡ encode (at a n)
      words_of {table} {a} H = N.is table a H ∙ ap (λ (k : ℕ). encode (at a k)) e

      guess_of : {table : ℕ} {a : Arena} → Holds table w s c a → guess ws ≡ at a n
      guess_of {table} {a} H = ap guess (words_of H) ∙ guess_encode (at a n) (node_formed H)

      children_of : {table : ℕ} {a : Arena} → Holds table w s c a → children_in ws ≡ children (at a n)
      children_of {table} {a} H = ap children_in (words_of H) ∙ children_encode (at a n) (node_formed H)

      pub parent_formed : IsFormed ws
      parent_formed = let H = C.lent.holds in record { view = at C.lent.view n; words = words_of H; good = node_formed H }

      module _ {b : List ℕ} (D : ChildWords ws b) where
        pub child_there : i < length b
        child_there = let q = ap length (children_of C.lent.holds) in omega (arith, q, as_many D, C.child)

        pub child_read : {m : ℕ} → m ≡ child (get_or b i 0) → IsChild w s c n i m
        child_read p = record { is = λ table a H. child_is D i p ∙ ap (λ (l : List ℕ). get_or l i 0) (children_of H) }

      pub child_enclosed : {r : Bool} {k y m : ℕ} → r ≡ parens (tag (guess ws)) i k → KindAt w s c y k → y ≡ m → IsChild w s c n i m → Encloses w s c n i r
      unfolding encloses
      child_enclosed p K q M = record {
        is = λ table a H. p ∙ (λ j. parens (tag (guess_of H j)) i ((K.is table a H ∙ ap (λ (v : ℕ). disc (kind (tag (at a v)))) (q ∙ M.is table a H)) j));
      }

      pub child_opened : {sp : Spelling} {t b : List ℕ} {count : ℕ} {b' : List ℕ} {end : ℕ} {r : Bool} → Writes b count (before sp (split t) (tag (guess ws)) i r) b' end → Encloses w s c n i r → Opens sp t w s c n i b count b' end
      child_opened {sp} {t} {b} {count} {b'} {end} W E = record {
        is = λ table a H. subst (λ (l : List ℕ). Writes b count l b' end) (λ j. before sp (split t) (tag (guess_of H j)) i (E.is table a H j)) W;
      }

  pub child_closed : {b : List ℕ} {count : ℕ} {b' : List ℕ} {end : ℕ} {r : Bool} → Writes b count (when r (bytes ")")) b' end → Encloses w s c n i r → Closes w s c n i b count b' end
  child_closed {b} {count} {b'} {end} W E = record { is = λ table a H. subst (λ (v : Bool). Writes b count (when v (bytes ")")) b' end) (E.is table a H) W }

  -- ---- the child
  pub child_below : {m : ℕ} → IsChild w s c n i m → m < n
  child_below M =
      let H = C.lent.holds in
      let l : n < length C.lent.view = omega (arith, C.inside, H.nodes) in
      let q = child_lower _ C.lent.view H.good n l i C.child in
      let p = M.is _ C.lent.view H in
      omega (arith, p, q)

  pub child_range : {y m : ℕ} → y ≡ m → IsChild w s c n i m → InRange w s c y
  child_range q M = let l = child_below M in record { lent = C.lent; inside = omega (arith, q, l, C.inside) }
