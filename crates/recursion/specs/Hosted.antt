-- Calls open to a host that work on the type of a root: their refusals, and what they answer and leave (01, "Who can cause which number").
use Rattle.std.specs.Prelude.{ℕ, List, length}
use Rattle.types.specs.Reply.{Reply, reply_of, tabled, judged, rooted}
use Rattle.types.specs.declared.Counters.{Counters}
use Rattle.names.specs.Table.{Name, names_of}
use Rattle.recursion.specs.Jobs.{Job}

-- what is done with a root, in so many lent words and starts
abbrev pub Work : Type 0
Work = ℕ → ℕ → ℕ → Job

-- after 1, 2 and 6, what the work gives; 7 and 8 come from it
unfoldable pub work_reply : Work → List ℕ → List ℕ → List ℕ → Counters → ℕ → Reply ℕ
unfolding reply_of tabled names_of judged rooted
work_reply f t w s c root =
    reply_of w s c (tabled (names_of t) (λ (ns : List Name). judged (length ns) w s c (rooted root (f (length w) (length s) root))))
