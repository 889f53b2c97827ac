-- What the functions that judge memory ask and answer.
use Rattle.std.specs.Prelude.{ℕ, ◌≤◌, ◌≡◌, Bool, true, false, List, length, drop, Ok}
use Rattle.std.proofs.Math.Option.{Option, none, some}
use Rattle.types.specs.Node.{below}
use Rattle.types.specs.Arena.{Arena}
use Rattle.types.specs.Memory.{arena_of}
use Rattle.types.specs.Out.{Out}
use Rattle.types.specs.Reply.{tabled, judged}
use Rattle.types.specs.declared.Counters.{Counters}
use Rattle.names.specs.Table.{Name, names_of}

abbrev pub is_some : Option Arena → Bool
is_some none = false
is_some (some a) = true

-- does lent memory hold an arena, under a table of so many names?
unfoldable pub is_sound : ℕ → List ℕ → List ℕ → Counters → Bool
unfolding arena_of
is_sound table w s c = is_some (arena_of table w s c)

-- memory keeps the limits, and what is unused in it is zero
pub record Limits (w s : List ℕ) (c : Counters) : Type 0 where
  pub few_words : length w ≤ 16384
  pub few_starts : length s ≤ 4096
  pub word_room : c.words ≤ length w
  pub start_room : c.nodes ≤ length s
  pub word_zeros : below 1 (drop c.words w) ≡ true
  pub start_zeros : below 1 (drop c.nodes s) ≡ true

pub record Within (w s : List ℕ) (c : Counters) (r : Bool) : Type 0 where
  pub holds : r ≡ true → Limits w s c
  pub fails : r ≡ false → Limits w s c → ⊥

-- the count of the table's names, where the table is good and memory holds an arena under it: 1 and 2 of every call open to a host
unfoldable pub lent_reply : List ℕ → List ℕ → List ℕ → Counters → Out ℕ
unfolding tabled names_of judged
lent_reply t w s c = tabled (names_of t) (λ (ns : List Name). judged (length ns) w s c (λ (a : Arena). Ok (length ns)))
