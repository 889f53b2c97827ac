-- The node of a variable in a sound arena: it has no child, and a variable has no other.
use Prim.Native.Nat.{ℕ, suc, ◌<◌}
use mathlib.Core.Path.{◌≡◌, refl, sym, ap, ◌∙◌, subst}
use mathlib.Core.Bool.{Bool, true, false}
use mathlib.Core.List.{[], ◌∷◌}
use mathlib.Core.Option.{some}
use native.Mathlib.Omega.{arith}
use lib.ListN.{length}
use lib.Dec.{eqb}
use borrow.Author.Tests.{eqb-true}
use Rattle.types.specs.Kind.{body_count}
use Rattle.types.specs.Node.{Tag, var, Node, node, tag, children, child_words_in, below, formed_in, rising}
use Rattle.types.specs.Arena.{Arena, at, find, sound}
use Rattle.types.proofs.Nodes.{nil, Formed, formed_parts}
use Rattle.types.proofs.Sound.{sound_well, sound_tail, at_find}
use Rattle.node_order.specs.NodeOrder.{Settled}
use Rattle.node_order.proofs.NodeOrders.{well_settled}
use Rattle.walks.specs.Theorems.{OneNode}

-- each node is settled, and so is `never` past the end
pub at_settled : (table : ℕ) (a : Arena) → sound table a ≡ true → (n : ℕ) → Settled (at a n)
unfolding at formed_in rising body_count below
at_settled table [] h n = record { formed = refl; rising = refl }
at_settled table (x ∷ s) h n = go (eqb n (length s)) (at_settled table s (sound_tail table x s h) n)
  where
    go : (b : Bool) → Settled (at s n) → Settled (elim b as (λ _. Node) [ true ↦ x | false ↦ at s n ])
    go true S = well_settled table (length s) x (sound_well table x s h)
    go false S = S

pub no_child : (x : Node) {v : ℕ} → Settled x → tag x ≡ var v → length (children x) ≡ 0
unfolding body_count child_words_in
no_child (node t cs) S e =
    let F = subst (λ (u : Tag). Formed u cs) e (formed_parts t cs S.formed) in
    omega (arith, eqb-true (suc (length cs)) 1 F.counted)

-- no variable stands past the end
inside : (a : Arena) (n v : ℕ) → tag (at a n) ≡ var v → n < length a
unfolding at
inside [] n v e = let z : ◌≡◌ {A = ℕ} 0 1 = cc in absurd (omega arith)
inside (x ∷ s) n v e = go (eqb n (length s)) refl e (inside s n v)
  where
    go : (b : Bool) → eqb n (length s) ≡ b → tag (elim b as (λ _. Node) [ true ↦ x | false ↦ at s n ]) ≡ var v → (tag (at s n) ≡ var v → n < length s) → n < suc (length s)
    go true q e f = omega (arith, eqb-true n (length s) q)
    go false q e f = omega (arith, f e)

var_node : (x : Node) (v : ℕ) → Settled x → tag x ≡ var v → x ≡ node (var v) []
var_node (node t cs) v S e = λ i. node (e i) (nil cs (no_child (node t cs) S e) i)

pub one_node : OneNode
one_node table a h m n v d e =
    let p : at a m ≡ at a n = var_node (at a m) v (at_settled table a h m) d ∙ sym (var_node (at a n) v (at_settled table a h n) e) in
    let q : some m ≡ some n = sym (at_find table a h m (inside a m v d)) ∙ ap (λ (x : Node). find x a) p ∙ at_find table a h n (inside a n v e) in
    cc
