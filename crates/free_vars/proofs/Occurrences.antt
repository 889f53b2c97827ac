-- The variables of a node, from its kind and its children; a variable has one node.
use Prim.Native.Nat.{ℕ, suc, ◌<◌}
use mathlib.Core.Path.{◌≡◌, refl, sym, ap, ◌∙◌}
use mathlib.Core.Bool.{true}
use mathlib.Core.List.{List, [], ◌∷◌, map, flatten}
use mathlib.Core.Option.{some}
use native.Mathlib.Omega.{arith}
use lib.ListN.{length}
use borrow.Author.Tests.{eqb-true}
use Rattle.types.specs.Kind.{disc, body_count}
use Rattle.types.specs.Node.{positive, negative, Tag, members, bound, var, neg, form, primitive, list, lambda, attrset, named, Node, node, tag, kind, children, child_words_in, formed}
use Rattle.types.specs.Arena.{Arena, at, fold, find, sound}
use Rattle.types.proofs.Nodes.{nil, formed_parts}
use Rattle.types.proofs.Sound.{at_formed, fold_at, at_find}
use Rattle.free_vars.specs.FreeVars.{node_vars, occurrences}
use Rattle.free_vars.specs.Inner.{VarNode}

-- ---- kind 3
pub record IsVar (t : Tag) : Type 0 where
  pub number : ℕ
  pub is : t ≡ var number

pub kind_var : (t : Tag) → disc (kind t) ≡ 3 → IsVar t
kind_var (members positive) e = absurd (omega arith)
kind_var (members negative) e = absurd (omega arith)
kind_var (bound positive) e = absurd (omega arith)
kind_var (bound negative) e = absurd (omega arith)
kind_var (var v) e = record { number = v; is = refl }
kind_var neg e = absurd (omega arith)
kind_var (form (primitive c)) e = absurd (omega arith)
kind_var (form list) e = absurd (omega arith)
kind_var (form lambda) e = absurd (omega arith)
kind_var (form (attrset fs d o)) e = absurd (omega arith)
kind_var (form (named n)) e = absurd (omega arith)

other_vars : (t : Tag) → (disc (kind t) ≡ 3 → ⊥) → (vs : List (List ℕ)) → node_vars t vs ≡ flatten vs
unfolding node_vars
other_vars (members k) f vs = refl
other_vars (bound k) f vs = refl
other_vars (var v) f vs = absurd (f refl)
other_vars neg f vs = refl
other_vars (form x) f vs = refl

-- a variable has no children
pub var_alone : (x : Node) (v : ℕ) → formed x ≡ true → tag x ≡ var v → x ≡ node (var v) []
unfolding body_count child_words_in
var_alone (node t cs) v e q = ap (λ (s : Tag). node s cs) q ∙ ap (node (var v)) (nil cs (omega (arith, eqb-true (suc (length cs)) 1 (formed_parts (var v) cs (rw q at e)).counted)))

module _ (table : ℕ) (a : Arena) (h : sound table a ≡ true) where
  module _ (n : ℕ) (l : n < length a) where
    pub var_childless : disc (kind (tag (at a n))) ≡ 3 → length (children (at a n)) ≡ 0
    var_childless e = let T = kind_var (tag (at a n)) e in ap (λ (x : Node). length (children x)) (var_alone (at a n) T.number (at_formed table a h n l) T.is)

    pub at_other : (disc (kind (tag (at a n))) ≡ 3 → ⊥) → occurrences a n ≡ flatten (map (occurrences a) (children (at a n)))
    unfolding occurrences
    at_other f = fold_at node_vars table a h n l ∙ other_vars (tag (at a n)) f _

  module _ (v : ℕ) where
    pub at_var : (N : VarNode a v) → occurrences a N.node ≡ v ∷ []
    unfolding occurrences node_vars
    at_var N = fold_at node_vars table a h N.node N.low ∙ ap (λ (t : Tag). node_vars t (map (fold node_vars a) (children (at a N.node)))) N.is

    alone : (N : VarNode a v) → at a N.node ≡ node (var v) []
    alone N = var_alone (at a N.node) v (at_formed table a h N.node N.low) N.is

    pub one_node : (M N : VarNode a v) → M.node ≡ N.node
    one_node M N =
        let s : some M.node ≡ some N.node
        = sym (at_find table a h M.node M.low) ∙ ap (λ (x : Node). find x a) (alone M ∙ sym (alone N)) ∙ at_find table a h N.node N.low in
        cc
