-- What `compact` answers, and what it leaves of its target (01, "arena" and "Who can cause which number").
use Rattle.std.specs.Prelude.{ℕ, Bool, true, false, ◌||◌, List, [], length, replicate, ltb, Ok, Err}
use Rattle.types.specs.declared.refusal.Refusal.TheVariants as refusal
use Rattle.types.specs.Out.{Out}
use Rattle.types.specs.Arena.{Arena}
use Rattle.types.specs.Reply.{Reply, reply, reply_of, tabled, judged, rooted}
use Rattle.types.specs.declared.Counters.{Counters}
use Rattle.names.specs.Table.{Name, names_of}
use Rattle.copying.specs.Copy.{copy}
use Rattle.compact.specs.declared.Compacted.{Compacted}

-- is a target lent over a limit?
abbrev pub over_limit : List ℕ → List ℕ → Bool
over_limit tw ts = ltb 16384 (length tw) || ltb 4096 (length ts)

-- such a target is 2; nothing is asked of what it holds
unfoldable pub limited : {A : Type 0} → List ℕ → List ℕ → Out A → Out A
limited tw ts o = elim (over_limit tw ts) [ true ↦ Err refusal.UnsoundArena | false ↦ o ]

-- the arena of the source: its 1 and 2, then the target's 2, then 6
unfoldable pub source : List ℕ → List ℕ → List ℕ → Counters → ℕ → List ℕ → List ℕ → Out Arena
unfolding tabled names_of judged limited rooted
source t w s c root tw ts =
    tabled (names_of t) (λ (ns : List Name). judged (length ns) w s c (λ (u : Arena). limited tw ts (rooted root Ok u)))

-- lent memory, all zero, and the counters of an arena that has no node
abbrev pub cleared : List ℕ → List ℕ
cleared w = replicate (length w) 0

abbrev pub empty : Counters
empty = record { nodes = 0; words = 0 }

-- without a source the target is as lent; with one it is cleared, and the type of the root is copied into it: 7 leaves it cleared
unfoldable pub compacted : ℕ → List ℕ → List ℕ → Counters → Out Arena → Reply ℕ
unfolding reply_of copy
compacted root tw ts d (Err e) = reply (Err e) d tw ts
compacted root tw ts d (Ok u) = reply_of (cleared tw) (cleared ts) empty (copy (length tw) (length ts) u root [])

unfoldable pub compact_reply : List ℕ → List ℕ → List ℕ → Counters → ℕ → List ℕ → List ℕ → Counters → Reply ℕ
unfolding source compacted
compact_reply t w s c root tw ts d = compacted root tw ts d (source t w s c root tw ts)

-- the answer, and the target's counters in every case
abbrev pub left : Compacted → List ℕ → List ℕ → Reply ℕ
left r tw ts = reply r.answer r.counters tw ts
