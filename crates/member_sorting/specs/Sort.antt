-- Members sorted by node order, that of the nodes in the arena at that time (01, "arena": `normalize_set_ops` sorts by node order).
use Rattle.std.specs.Prelude.{ℕ, Bool, true, false, List, [], ◌∷◌}
use Rattle.types.specs.Order.{is_less}
use Rattle.types.specs.Arena.{Arena, at}
use Rattle.node_order.specs.NodeOrder.{node_order}

-- does node m come before node n?
unfoldable pub before : Arena → ℕ → ℕ → Bool
unfolding node_order at
before a m n = is_less (node_order (at a m) (at a n))

-- a member, before the first that it comes before
unfoldable pub insert_member : Arena → ℕ → List ℕ → List ℕ
unfolding before
insert_member a m [] = m ∷ []
insert_member a m (x ∷ xs) = elim (before a m x) [ true ↦ m ∷ x ∷ xs | false ↦ x ∷ insert_member a m xs ]

-- a sorted list, and what follows inserted from left to right
unfoldable pub sort_onto : Arena → List ℕ → List ℕ → List ℕ
unfolding insert_member
sort_onto a sorted [] = sorted
sort_onto a sorted (m ∷ ms) = sort_onto a (insert_member a m sorted) ms

unfoldable pub sort : Arena → List ℕ → List ℕ
unfolding sort_onto
sort a = sort_onto a []
