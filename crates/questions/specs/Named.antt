-- What a name stands for.
use Rattle.std.specs.Prelude.{ℕ, true, false, length, get_or}
use Rattle.types.specs.Kind as kinds
use Rattle.types.specs.Node.{Node, children}
use Rattle.types.specs.Arena.{Arena, rec}
use Rattle.node_reading.specs.Nodes.{of_kind}

-- a named type stands for what its one child stands for, and any other node for itself (01, "arena")
unfoldable pub unwrap_named : Arena → ℕ → ℕ
unfolding rec
unwrap_named =
    rec (λ (s : Arena) (x : Node) (f : ℕ → ℕ). elim (of_kind kinds.named x) [ true ↦ f (get_or (children x) 0 0) | false ↦ length s ]) 0
