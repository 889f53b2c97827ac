-- Which nodes are reachable from a root, as a test, and how many.
use Rattle.std.specs.Prelude.{ℕ, Bool, false, ◌||◌, List, [], ◌∷◌, map, length, eqb}
use Rattle.types.specs.Node.{Node, children}
use Rattle.types.specs.Arena.{Arena, rec}
use Rattle.bits.specs.Bits.{count_below}

-- does one of these tests pass?
unfoldable pub some_of : List Bool → Bool
some_of [] = false
some_of (b ∷ bs) = b || some_of bs

-- does a path of children lead from node n to node u? The theorem `reaches_place` says that this is `Reachable`
unfoldable pub reaches : Arena → ℕ → ℕ → Bool
unfolding rec some_of
reaches =
    rec (λ (s : Arena) (x : Node) (f : ℕ → ℕ → Bool) (u : ℕ). eqb u (length s) || some_of (map (λ (c : ℕ). f c u) (children x)))
    (λ u. false)

-- how many nodes are reachable
unfoldable pub reach_count : Arena → ℕ → ℕ
unfolding reaches count_below
reach_count a root = count_below (reaches a root) (length a)
