-- `normalize_set_ops` (01, "arena"), without a cache. Unions and intersections are one: k is the kind of list.
use Rattle.std.specs.Prelude.{ℕ, length, get_or, eqb, Ok, Err}
use Rattle.std.proofs.Math.Bool.{true, false}
use mathlib.Core.List.{List, [], ◌∷◌}
use Rattle.std.proofs.Math.Option.{none, some}
use Rattle.types.specs.declared.refusal.Refusal.TheVariants as refusal
use Rattle.types.specs.Out.{Out, ◌>>=◌}
use Rattle.types.specs.Node.{Polarity, members, Node, node, tag, children}
use Rattle.types.specs.Arena.{Arena, at, rec}
use Rattle.node_store.specs.Intern.{intern}
use Rattle.recursion.specs.Jobs.{Job, rebuild}
use Rattle.simplification.specs.Seen.{same_tag}
use Rattle.simplification.specs.Pass.{first_copies, list_kind}
use Rattle.member_sorting.specs.Sort.{sort}

-- what a normalized member m, the node x, brings to a list of kind k: a list of that kind its own members, any other itself, `never` and
-- `any` too
unfoldable pub brings : Polarity → ℕ → Node → List ℕ
unfolding same_tag
brings k m x = elim (same_tag (tag x) (members k)) [ true ↦ children x | false ↦ m ∷ [] ]

-- the list so far, and the first copies of what the members bring, each normalized in its turn: what it brings is appended before the next
-- is normalized,
-- and so 8 may come before a later member's 7
unfoldable pub flatten_set_op : Polarity → (ℕ → Job) → List ℕ → List ℕ → Arena → Out (List ℕ × Arena)
unfolding first_copies brings at ◌>>=◌
flatten_set_op k f acc [] a = Ok (acc, a)
flatten_set_op k f acc (c ∷ cs) a =
    f c a >>= λ r. first_copies acc (brings k r.0 (at r.1 r.0)) >>= λ (l : List ℕ). flatten_set_op k f l cs r.1

module _ (words starts : ℕ) where
  -- what stands for a list: one member for itself, more as a node
  unfoldable pub stand_for : Polarity → List ℕ → Job
  unfolding intern
  stand_for k ms a = elim (eqb (length ms) 1) [ true ↦ Ok (get_or ms 0 0, a) | false ↦ intern words starts (node (members k) ms) a ]

  -- a node, by what is done with its children; one without children is itself
  unfoldable pub set_ops_step : Arena → Node → (ℕ → Job) → Job
  unfolding rebuild flatten_set_op stand_for sort ◌>>=◌
  set_ops_step s x f a = elim (list_kind (tag x)) [
    | none ↦ rebuild words starts (tag x) (children x) f a
    | some k ↦ flatten_set_op k f [] (children x) a >>= λ r. stand_for k (sort r.1 r.0) r.1
  ]

  -- node n of the arena s, in an arena that grew from s
  unfoldable pub normalize : Arena → ℕ → Job
  unfolding rec set_ops_step
  normalize = rec set_ops_step (λ a. Err refusal.NoSuchRoot)

  -- the type of the root
  unfoldable pub normalize_set_ops : ℕ → Job
  unfolding normalize
  normalize_set_ops root a = normalize a root a
