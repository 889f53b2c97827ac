-- Work in an arena that grows: jobs, one job after another, and a node with what its children became. No definition has a cache.
use Rattle.std.specs.Prelude.{ℕ, List, [], ◌∷◌, Ok}
use Rattle.types.specs.Out.{Out, ◌>>=◌}
use Rattle.types.specs.Node.{Tag, node}
use Rattle.types.specs.Arena.{Arena}
use Rattle.node_store.specs.Intern.{intern}

-- what is done in an arena: the number of a node, and the arena after
abbrev pub Job : Type 0
Job = Arena → Out (ℕ × Arena)

-- one job after another
unfoldable pub each : (ℕ → Job) → List ℕ → Arena → Out (List ℕ × Arena)
unfolding ◌>>=◌
each f [] a = Ok ([], a)
each f (c ∷ cs) a = f c a >>= λ r. each f cs r.1 >>= λ q. Ok (r.0 ∷ q.0, q.1)

module _ (words starts : ℕ) where
  -- the children from left to right, then the node with the same tag
  unfoldable pub rebuild : Tag → List ℕ → (ℕ → Job) → Job
  unfolding each intern ◌>>=◌
  rebuild t cs f a = each f cs a >>= λ r. intern words starts (node t r.0) r.1
