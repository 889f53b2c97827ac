-- What is shown of these definitions beyond the contracts. A statement with parameters holds for all of them.
use Rattle.std.specs.Prelude.{ℕ, ◌≡◌, true, List, length, Ok, Err}
use Rattle.std.proofs.Math.Option.{some}
use Rattle.types.specs.Out.{Out}
use Rattle.types.specs.Node.{Node, encode, well}
use Rattle.types.specs.Arena.{Arena}
use Rattle.types.specs.Memory.{words_of, starts_of, counters_of, Holds}
use Rattle.types.specs.Reply.{Reply, reply, reply_of}
use Rattle.types.specs.declared.refusal.Refusal.{Refusal}
use Rattle.types.specs.declared.Counters.{Counters}
use Rattle.names.specs.Table.{Name, names_of}
use Rattle.node_store.specs.Intern.{intern}
use Rattle.arena.specs.Intern.{intern_reply}

-- interning the words of a node that may stand there is the definition's `intern` (01, "arena")
abbrev pub InternWordsIs : Type 0
InternWordsIs =
    (t w s : List ℕ) (c : Counters) (ns : List Name) (a : Arena) (x : Node) → names_of t ≡ some ns → Holds (length ns) w s c a
    → well (length ns) (length a) x ≡ true → intern_reply t w s c (encode x) ≡ reply_of w s c (intern (length w) (length s) x a)

-- the answer of a reply
abbrev pub answered : Reply ℕ → Out ℕ
answered (reply o c w s) = o

-- a refused call leaves counters, words and starts as they were (01, "Who can cause which number")
abbrev pub RefusedUnchanged : Type 0
RefusedUnchanged =
    (t w s : List ℕ) (c : Counters) (ws : List ℕ) (e : Refusal) → answered (intern_reply t w s c ws) ≡ Err e
    → intern_reply t w s c ws ≡ reply (Err e) c w s

-- a call that interns the words of x answers n and leaves the arena b; a second answers the same number, and nothing changes
pub record Twice (t w s : List ℕ) (c : Counters) (x : Node) (n : ℕ) (b : Arena) : Type 0 where
  pub first : intern_reply t w s c (encode x) ≡ reply (Ok n) (counters_of b) (words_of (length w) b) (starts_of (length s) b)
  pub second : intern_reply t (words_of (length w) b) (starts_of (length s) b) (counters_of b) (encode x)
      ≡ reply (Ok n) (counters_of b) (words_of (length w) b) (starts_of (length s) b)

-- so it is wherever `intern` is defined to answer n and leave b (01, "arena")
abbrev pub InternTwice : Type 0
InternTwice =
    (t w s : List ℕ) (c : Counters) (ns : List Name) (a : Arena) (x : Node) (n : ℕ) (b : Arena) → names_of t ≡ some ns
    → Holds (length ns) w s c a → well (length ns) (length a) x ≡ true → intern (length w) (length s) x a ≡ Ok (n, b) → Twice t w s c x n b
