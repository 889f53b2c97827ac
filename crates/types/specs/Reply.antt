-- What a call open to a host answers and leaves, and the order of refusals that all of them share (01, "Who can cause which number").
use Rattle.std.specs.Prelude.{ℕ, true, false, List, length, ltb, Ok, Err}
use Rattle.std.proofs.Math.Option.{Option}
use Rattle.types.specs.declared.refusal.Refusal.TheVariants as refusal
use Rattle.types.specs.Out.{Out, required}
use Rattle.types.specs.Arena.{Arena}
use Rattle.types.specs.Memory.{words_of, starts_of, counters_of, arena_of}
use Rattle.types.specs.declared.Counters.{Counters}

-- the answer or the number of a refusal, the counters, and all lent words and starts
pub data Reply (A : Type 0) : Type 0 where
  reply : Out A → Counters → List ℕ → List ℕ → Reply A

-- a finished call leaves memory that holds its arena; a refused one leaves memory and counters as they were
unfoldable pub reply_of : {A : Type 0} → List ℕ → List ℕ → Counters → Out (A × Arena) → Reply A
reply_of w s c (Ok r) = reply (Ok r.0) (counters_of r.1) (words_of (length w) r.1) (starts_of (length s) r.1)
reply_of w s c (Err e) = reply (Err e) c w s

-- 1 before all else: a call goes on with the names of its table
unfoldable pub tabled : {A : Type 0} {N : Type 0} → Option N → (N → Out A) → Out A
unfolding required
tabled = required refusal.BadTable

-- then 2: a call goes on with the arena that it was lent
unfoldable pub judged : {A : Type 0} → ℕ → List ℕ → List ℕ → Counters → (Arena → Out A) → Out A
unfolding required arena_of
judged table w s c = required refusal.UnsoundArena (arena_of table w s c)

-- then 6, where the call has a root
unfoldable pub rooted : {A : Type 0} → ℕ → (Arena → Out A) → Arena → Out A
rooted root f a = elim (ltb root (length a)) [ false ↦ Err refusal.NoSuchRoot | true ↦ f a ]
