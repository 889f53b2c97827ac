-- What the functions that read bytes, names and nodes ask and answer.
use Rattle.std.specs.Prelude.{ℕ, zero, suc, ◌+◌, ◌/◌, ◌^◌, ◌<◌, ◌≤◌, ◌≡◌, true, List, [], ◌∷◌, length, take, drop, Ok, Err}
use Rattle.words.specs.Words.{head_kind, head_dynamic}
use Rattle.words.specs.Inner.{renewed}
use Rattle.words.specs.declared.Layout.{Layout}
use Rattle.words.specs.declared.Layout.TheVariants as layout
use Rattle.types.specs.declared.refusal.Refusal.{Refusal}
use Rattle.types.specs.Out.{Out}
use Rattle.types.specs.Node.{below}
use Rattle.types.specs.Arena.{Arena}
use Rattle.types.specs.Memory.{Holds}
use Rattle.types.specs.declared.Counters.{Counters}
use Rattle.node_order.specs.WordsOrder.{field_count}
use Rattle.node_filter.specs.Inner.Filter.{CoversLent}
use Rattle.sheet_reading.specs.Sheet.{value, name, names, words, node_words, added, node, nodes}

-- k bytes stand there from `at` on
pub record Inside (bytes : List ℕ) (at k : ℕ) : Type 0 where
  pub fits : at + k ≤ length bytes

-- r is the number of 16 bits there
pub record ShortAt (bytes : List ℕ) (at r : ℕ) : Type 0 where
  pub is : r ≡ value (take 2 (drop at bytes))
  pub small : r < 65536

-- r is the word there
pub record WordAt (bytes : List ℕ) (at r : ℕ) : Type 0 where
  pub is : r ≡ value (take 4 (drop at bytes))
  pub small : r < 2 ^ 32

-- an outcome of a reader: the place where the bytes go on, not before `from`, or a refusal
pub data Reads {A : Type 0} (bytes : List ℕ) (from : ℕ) : Out ℕ → Out (A × List ℕ) → Type 0 where
  to : {e : ℕ} {v : A} → from ≤ e → e ≤ length bytes → Reads bytes from (Ok e) (Ok (v, drop e bytes))
  stop : {e : Refusal} → Reads bytes from (Err e) (Err e)

-- the place lies in the bytes
pub record Here (bytes : List ℕ) (at : ℕ) : Type 0 where
  pub inside : at ≤ length bytes

pub record ReadsName (bytes previous : List ℕ) (at : ℕ) (r : Out ℕ) : Type 0 where
  pub is : Reads bytes at r (name previous (drop at bytes))

pub record ReadsNames (bytes : List ℕ) (at count : ℕ) (r : Out ℕ) : Type 0 where
  pub is : Reads bytes at r (names count [] (drop at bytes))

pub record ReadsWords (bytes : List ℕ) (at : ℕ) (r : Out ℕ) : Type 0 where
  pub is : Reads bytes at r (node_words (drop at bytes))

-- a stretch of 1 to 66 words, and room for them
pub record Stretch (bytes node : List ℕ) : Type 0 where
  pub some : 4 ≤ length bytes
  pub few : length bytes ≤ 264
  pub size : length node ≡ 66

-- room for the words that the bytes have
pub record WordRoom (bytes ws : List ℕ) : Type 0 where
  pub room : length bytes / 4 ≤ length ws

-- r is how many they are, and they stand first in what were the words ws
pub record Copied (bytes ws ws' : List ℕ) (r : ℕ) : Type 0 where
  pub count : r ≡ length bytes / 4
  pub size : length ws' ≡ length ws
  pub is : take r ws' ≡ words r bytes
  pub small : below (2 ^ 32) (words r bytes) ≡ true

-- the first so many words renewed
unfoldable pub renewed_first : ℕ → List ℕ → List ℕ
unfolding renewed
renewed_first zero ws = ws
renewed_first (suc k) [] = []
renewed_first (suc k) (w ∷ ws) = renewed w ∷ renewed_first k ws

-- the words of an old node in today's layout: its field words are renewed
unfoldable pub renewed_words : List ℕ → List ℕ
unfolding head_kind head_dynamic field_count renewed_first
renewed_words [] = []
renewed_words (h ∷ b) = h ∷ renewed_first (field_count (head_kind h) (head_dynamic h) (length b)) b

-- the words of a node of either layout, in today's
abbrev pub new_words : Layout → List ℕ → List ℕ
new_words layout.Old ws = renewed_words ws
new_words layout.New ws = ws

-- an array in which so many words of a node stand first
pub record Copying (node : List ℕ) (count : ℕ) : Type 0 where
  pub size : length node ≡ 66
  pub some : 1 ≤ count
  pub few : count ≤ 66

-- they are renewed
pub record Renews (node : List ℕ) (count : ℕ) (node' : List ℕ) : Type 0 where
  pub size : length node' ≡ 66
  pub is : take count node' ≡ renewed_words (take count node)

-- r is how many words the bytes have, and they stand in the array, in today's layout
pub record CopiedAs (l : Layout) (bytes node : List ℕ) (r : ℕ) : Type 0 where
  pub count : r ≡ length bytes / 4
  pub size : length node ≡ 66
  pub is : take r node ≡ new_words l (words r bytes)
  pub small : below (2 ^ 32) (words r bytes) ≡ true

-- an outcome of adding a node: finished, memory holds the arena; what a refusal leaves is free
pub data Adds (table : ℕ) (w s : List ℕ) : Out (ℕ × Counters) → Out Arena → Type 0 where
  done : {n : ℕ} {d : Counters} {b : Arena} → Holds table w s d b → Adds table w s (Ok (n, d)) (Ok b)
  stop : {e : Refusal} → Adds table w s (Err e) (Err e)

pub record AddsNode (table : ℕ) (w s : List ℕ) (c : Counters) (ws w' s' : List ℕ) (r : Out (ℕ × Counters)) : Type 0 where
  pub is : (a : Arena) → Holds table w s c a → Adds table w' s' r (added layout.New (length w) (length s) table ws a)

-- an outcome of reading nodes: the place where the bytes go on, and memory holds the arena; what a refusal leaves is free
pub data Stores (bytes : List ℕ) (table : ℕ) (w s : List ℕ) : Out (ℕ × Counters) → Out (Arena × List ℕ) → Type 0 where
  to : {e : ℕ} {d : Counters} {b : Arena} → e ≤ length bytes → Holds table w s d b
      → Stores bytes table w s (Ok (e, d)) (Ok (b, drop e bytes))
  stop : {e : Refusal} → Stores bytes table w s (Err e) (Err e)

-- the place lies in the bytes, and memory holds some arena
pub record Ready (bytes : List ℕ) (at table : ℕ) (w s : List ℕ) (c : Counters) : Type 0 where
  pub inside : at ≤ length bytes
  pub view : Arena
  pub holds : Holds table w s c view

pub record StoresNode (l : Layout) (bytes : List ℕ) (at table : ℕ) (w s : List ℕ) (c : Counters) (w' s' : List ℕ) (r : Out (ℕ × Counters)) : Type 0 where
  pub is : (a : Arena) → Holds table w s c a → Stores bytes table w' s' r (node l (length w) (length s) table a (drop at bytes))

-- the nodes that memory then holds are in the filter, unless that is a refusal
pub record CoversNodes (w s : List ℕ) (r : Out (ℕ × Counters)) (filter : List ℕ) : Type 0 where
  pub is : (e : ℕ) (d : Counters) → r ≡ Ok (e, d) → CoversLent w s d filter

-- the same with memory that holds the arena without a node
pub record ReadyEmpty (bytes : List ℕ) (at table : ℕ) (w s : List ℕ) : Type 0 where
  pub inside : at ≤ length bytes
  pub holds : Holds table w s (record { nodes = 0; words = 0 }) []

pub record StoresNodes (l : Layout) (bytes : List ℕ) (at table count : ℕ) (w s w' s' : List ℕ) (r : Out (ℕ × Counters)) : Type 0 where
  pub is : Stores bytes table w' s' r (nodes l (length w) (length s) table count [] (drop at bytes))
