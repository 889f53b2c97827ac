-- What `compare` answers (01, "primitive, arc_ty" and "Who can cause which number").
use Rattle.std.specs.Prelude.{ℕ, List, length, Ok}
use Rattle.types.specs.Out.{Out}
use Rattle.types.specs.Arena.{Arena, at}
use Rattle.types.specs.Reply.{tabled, judged, rooted}
use Rattle.types.specs.declared.Counters.{Counters}
use Rattle.std.specs.declared.cmp.Ordering.{Ordering}
use Rattle.names.specs.Table.{Name, names_of}
use Rattle.node_order.specs.NodeOrder.{node_order}

-- how two nodes stand, after 6
unfoldable pub comparing : ℕ → ℕ → Arena → Out Ordering
unfolding rooted node_order at
comparing m n = rooted m (rooted n (λ (a : Arena). Ok (node_order (at a m) (at a n))))

-- before that 1 and 2
unfoldable pub compare_reply : List ℕ → List ℕ → List ℕ → Counters → ℕ → ℕ → Out Ordering
unfolding tabled names_of judged comparing
compare_reply t w s c m n = tabled (names_of t) (λ (ns : List Name). judged (length ns) w s c (comparing m n))
