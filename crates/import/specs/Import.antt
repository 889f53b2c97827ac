-- What `import_from_arena` answers, and what it leaves of its target (02, A4; 01, "Who can cause which number").
use Rattle.std.specs.Prelude.{ℕ, List, length}
use Rattle.types.specs.Arena.{Arena}
use Rattle.types.specs.Reply.{Reply, reply_of, rooted}
use Rattle.types.specs.declared.Counters.{Counters}
use Rattle.names.specs.Table.{Name}
use Rattle.soundness.specs.Lent.{lent_to}
use Rattle.importing.specs.Import.{number_in, import_from_arena}

-- the source's 1 and 2, the target's 1 and 2, then 6; then the type of the root is imported into the target, in as many words and
-- starts as that was lent: 12 and 7 come from there. A refusal leaves the target as lent, counters too
unfoldable pub import_reply : List ℕ → List ℕ → List ℕ → Counters → ℕ → List ℕ → List ℕ → List ℕ → Counters → Reply ℕ
unfolding reply_of lent_to rooted number_in import_from_arena
import_reply t w s c root tt tw ts d =
    reply_of tw ts d (lent_to t w s c (λ (ns : List Name) (u : Arena). lent_to tt tw ts d (λ (ms : List Name) (b : Arena).
    rooted root (λ (v : Arena). import_from_arena (number_in ns ms) (length tw) (length ts) v root b) u)))
