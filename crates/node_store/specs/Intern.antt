-- What it is to intern a node (01, "arena").
use Rattle.std.specs.Prelude.{ℕ, Bool, true, false, ◌&&◌, List, ◌∷◌, length, leb, Result, Ok, Err}
use Rattle.std.proofs.Math.Option.{none, some}
use Rattle.types.specs.declared.refusal.Refusal.{Refusal}
use Rattle.types.specs.declared.refusal.Refusal.TheVariants as refusal
use Rattle.types.specs.Out.{Out}
use Rattle.types.specs.Node.{Node}
use Rattle.types.specs.Arena.{Arena, find}
use Rattle.types.specs.Memory.{flat}
use Rattle.types.specs.Reply.{Reply, reply}
use Rattle.types.specs.declared.Counters.{Counters}

-- does an arena have room in so many words and starts?
unfoldable pub has_room : ℕ → ℕ → Arena → Bool
unfolding flat
has_room words starts a = leb (length (flat a)) words && leb (length a) starts

-- a node equal to a stored one gets the stored number, also where there is no room; another is added, or refused by 7
unfoldable pub intern : ℕ → ℕ → Node → Arena → Out (ℕ × Arena)
unfolding find has_room
intern words starts x a =
    elim (find x a) [ some n ↦ Ok (n, a) | none ↦ elim (has_room words starts (x ∷ a)) [ true ↦ Ok (length a, x ∷ a) | false ↦ Err refusal.NoRoom ] ]

-- a node's number and the counters after, which a refusal leaves as they were
abbrev pub left : Counters → Result (ℕ × Counters) Refusal → List ℕ → List ℕ → Reply ℕ
left c (Ok r) w s = reply (Ok r.0) r.1 w s
left c (Err e) w s = reply (Err e) c w s
