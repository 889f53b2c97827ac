-- What is shown of these definitions beyond the contracts. A statement with parameters holds for all of them.
use Rattle.std.specs.Prelude.{ℕ, ◌≡◌, true, List}
use Rattle.types.specs.Node.{Node, encode, formed, well}
use Rattle.node_order.specs.NodeOrder.{node_order, Settled, OrdersNodes}
use Rattle.node_order.specs.WordsOrder.{words_order}

-- node order is a total order of the nodes that may stand in an arena (01, "primitive, arc_ty")
abbrev pub NodeOrderOrders : Type 0
NodeOrderOrders = OrdersNodes node_order

-- each node of an arena is settled, as that asks
abbrev pub WellSettled : Type 0
WellSettled = (table nodes : ℕ) (x : Node) → well table nodes x ≡ true → Settled x

-- the words of formed nodes stand as the nodes do
abbrev pub WordsOrderEncode : List ℕ → List ℕ → Type 0
WordsOrderEncode a b = (x y : Node) → formed x ≡ true → formed y ≡ true → a ≡ encode x → b ≡ encode y → words_order a b ≡ node_order x y
