-- What `intern` answers and leaves (01, "arena" and "Who can cause which number").
use Rattle.std.specs.Prelude.{ℕ, List, length}
use Rattle.types.specs.Out.{Out, ◌>>=◌}
use Rattle.types.specs.Node.{decode, decode_in}
use Rattle.types.specs.Arena.{Arena}
use Rattle.types.specs.Reply.{Reply, reply_of, tabled, judged}
use Rattle.types.specs.declared.Counters.{Counters}
use Rattle.names.specs.Table.{Name, names_of}
use Rattle.node_store.specs.Intern.{intern}

-- first the node's own faults, 3, 4, 5
unfoldable pub interning : ℕ → ℕ → List ℕ → ℕ → Arena → Out (ℕ × Arena)
unfolding decode_in intern ◌>>=◌
interning words starts ws table a = decode table (length a) ws >>= λ x. intern words starts x a

-- before them the table's fault, 1, and the arena's, 2
unfoldable pub intern_reply : List ℕ → List ℕ → List ℕ → Counters → List ℕ → Reply ℕ
unfolding reply_of tabled names_of judged interning
intern_reply t w s c ws =
    reply_of w s c (tabled (names_of t) (λ (ns : List Name). judged (length ns) w s c (interning (length w) (length s) ws (length ns))))
