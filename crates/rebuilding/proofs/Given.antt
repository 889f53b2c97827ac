-- A node in memory, and items given for its children, as many as it has: what they say of its words, and that the words with the items exchanged for its children
-- are those of the node with the items.
use Prim.Native.Nat.{ℕ, ◌+◌, ◌<◌}
use mathlib.Core.Path.{◌≡◌, ap, ◌∙◌, subst}
use mathlib.Core.Bool.{true}
use mathlib.Core.List.{List}
use native.Mathlib.Omega.{arith}
use lib.ListN.{length, take}
use Rattle.types.specs.Node.{Node, node, tag, children, encode, formed}
use Rattle.types.specs.Arena.{Arena, at}
use Rattle.types.specs.Memory.{Holds}
use Rattle.types.specs.declared.Counters.{Counters}
use Rattle.types.proofs.Nodes.{formed_parts}
use Rattle.types.proofs.Sound.{at_formed}
use Rattle.node_store.specs.Inner.Stored.{InRange, NodeAt}
use Rattle.rebuilding.specs.Inner.Rebuilt.{AsMany, Exchanged}
use Rattle.rebuilding.proofs.Copying.{children_read, few_read}
use Rattle.rebuilding.proofs.Exchanging.{length_given, exchanged_encode}

module _ {w s : List ℕ} {c : Counters} {n : ℕ} (I : InRange w s c n) {ws : List ℕ} (N : NodeAt w s c n ws) where
  pub given_many : (items : List ℕ) (count : ℕ) → length items ≡ 65 → count ≡ length (children (at I.lent.view n)) → AsMany ws items count
  given_many items count l q =
      let e = ap length (children_read I N I.lent.holds) in
      record { long = l; few = omega (arith, q, few_read I N, e); count_is = omega (arith, q, e) }

  module _ {items : List ℕ} {count : ℕ} (G : AsMany ws items count) {table : ℕ} {a : Arena} (H : Holds table w s c a) where
    pub given_count : count ≡ length (children (at a n))
    given_count = G.count_is ∙ ap length (children_read I N H)

    pub given_words : 0 < count → {new : List ℕ} → Exchanged ws items count new → take (count + 1) new ≡ encode (node (tag (at a n)) (take count items))
    given_words p {new} X = go (at a n) (N.is table a H) (at_formed table a H.good n (omega (arith, I.inside, H.nodes))) given_count
      where
        go : (x : Node) → ws ≡ encode x → formed x ≡ true → count ≡ length (children x) → take (count + 1) new ≡ encode (node (tag x) (take count items))
        go (node t cs) v g k = exchanged_encode t cs (formed_parts t cs g) k p G.few (length_given G) (subst (λ (l : List ℕ). Exchanged l items count new) v X)
