-- Questions about the type of a root, which only read: their refusals (01, "Who can cause which number").
use Rattle.std.specs.Prelude.{ℕ, List, length, Ok}
use Rattle.types.specs.Out.{Out}
use Rattle.types.specs.Arena.{Arena}
use Rattle.types.specs.Reply.{tabled, judged, rooted}
use Rattle.types.specs.declared.Counters.{Counters}
use Rattle.names.specs.Table.{Name, names_of}

-- what q says of the root, after 6
unfoldable pub asking : {A : Type 0} → (Arena → ℕ → A) → ℕ → Arena → Out A
unfolding rooted
asking q root = rooted root (λ (a : Arena). Ok (q a root))

-- before that 1 and 2
unfoldable pub ask_reply : {A : Type 0} → (Arena → ℕ → A) → List ℕ → List ℕ → List ℕ → Counters → ℕ → Out A
unfolding tabled names_of judged asking
ask_reply q t w s c root = tabled (names_of t) (λ (ns : List Name). judged (length ns) w s c (asking q root))
