-- The first step of a call that is lent an arena (01, "Who can cause which number").
use Rattle.std.specs.Prelude.{ℕ, List, length}
use Rattle.types.specs.Out.{Out}
use Rattle.types.specs.Arena.{Arena}
use Rattle.types.specs.Reply.{tabled, judged}
use Rattle.types.specs.declared.Counters.{Counters}
use Rattle.names.specs.Table.{Name, names_of}

-- a call that goes on with the names of a table and with the arena that memory holds under them, after 1 and 2
unfoldable pub lent_to : {A : Type 0} → List ℕ → List ℕ → List ℕ → Counters → (List Name → Arena → Out A) → Out A
unfolding tabled names_of judged
lent_to t w s c f = tabled (names_of t) (λ (ns : List Name). judged (length ns) w s c (f ns))
