-- What `unwrap_named` answers is a node: each step of the recursion gives a node of the arena behind it, or the newest.
use Prim.Native.Nat.{ℕ, ◌-◌, ◌<◌, ◌≤◌}
use mathlib.Core.Path.{◌≡◌, sym, ◌∙◌}
use mathlib.Core.Bool.{Bool, true, false}
use mathlib.Core.List.{List, [], ◌∷◌}
use native.Mathlib.Omega.{arith}
use lib.ListN.{length, get_or}
use lib.Dec.{eqb}
use Rattle.std.specs.Prelude.{Ok}
use Rattle.types.specs.Kind as kinds
use Rattle.types.specs.Node.{children}
use Rattle.types.specs.Arena.{Arena}
use Rattle.types.specs.declared.Counters.{Counters}
use Rattle.types.proofs.Addresses.{start_room}
use Rattle.node_reading.specs.Nodes.{of_kind}
use Rattle.walks.specs.Asked.{ask_reply}
use Rattle.questions.specs.Named.{unwrap_named}
use Rattle.questions.specs.Theorems.{UnwrapsToNode}
use Rattle.questions.proofs.Ways.{Way, refused, answered, way}

-- ---- in an arena: whatever the root, at most the newest node
step_within : (new named : Bool) {i j l : ℕ} → i ≤ l - 1 → j ≤ l - 1 → elim new as (λ _. ℕ) [ true ↦ elim named as (λ _. ℕ) [ true ↦ i | false ↦ l ] | false ↦ j ] ≤ l
step_within true true h k = omega arith
step_within true false h k = omega arith
step_within false named h k = omega arith

within : (a : Arena) (n : ℕ) → unwrap_named a n ≤ length a - 1
unfolding unwrap_named
within [] n = omega arith
within (x ∷ s) n = let h = step_within (eqb n (length s)) (of_kind kinds.named x) (within s (get_or (children x) 0 0)) (within s n) in omega (arith, h)

stands : (a : Arena) (root : ℕ) → root < length a → unwrap_named a root < length a
stands a root l = omega (arith, within a root)

-- ---- in lent memory, which holds at most 4,096 nodes
module _ (t w s : List ℕ) (c : Counters) (root n : ℕ) (e : ask_reply unwrap_named t w s c root ≡ Ok n) where
  record Answer : Type 0 where
    pub inside : n < c.nodes
    pub few : c.nodes ≤ 4096

  answer : Answer
  answer = go (way t w s c root)
    where
      go : Way t w s c root → Answer
      go (refused k f) = let p = sym (f ℕ unwrap_named) ∙ e in let z : ◌≡◌ {A = ℕ} 0 1 = cc in absurd (omega arith)
      go (answered table a H l f) =
          let p = sym (f ℕ unwrap_named) ∙ e in
          let q : unwrap_named a root ≡ n = cc in
          record { inside = omega (arith, stands a root l, H.nodes); few = omega (arith, start_room H, H.few_starts) }

  pub unwrapped_small : n < 4096
  unwrapped_small = omega (arith, answer.inside, answer.few)

pub unwraps_to_node : UnwrapsToNode
unwraps_to_node = record { stands = stands; answers = λ t w s c root n e. (answer t w s c root n e).inside }
