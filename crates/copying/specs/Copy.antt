-- The copy of a type into another arena, as `compact` makes it (01, "arena"). There is no cache in it: `compact_inner` has one.
use Rattle.std.specs.Prelude.{ℕ, Err}
use Rattle.types.specs.declared.refusal.Refusal.TheVariants as refusal
use Rattle.types.specs.Node.{tag, children}
use Rattle.types.specs.Arena.{Arena, rec}
use Rattle.recursion.specs.Jobs.{Job, rebuild}

module _ (words starts : ℕ) where
  -- node n of the source is copied into the arena at work: its children from left to right, then a node with the same tag and their copies
  unfoldable pub copy : Arena → ℕ → Job
  unfolding rec rebuild
  copy = rec (λ s x f. rebuild words starts (tag x) (children x) f) (λ a. Err refusal.NoSuchRoot)
