-- What `read_sheet` asks and answers (01, "A sheet and its line").
use Rattle.std.specs.Prelude.{ℕ, ◌-◌, ◌<◌, ◌≤◌, ◌≡◌, List, length, take, drop, replicate, Ok, Err}
use Rattle.words.specs.declared.Layout.{Layout}
use Rattle.types.specs.declared.refusal.Refusal.{Refusal}
use Rattle.types.specs.Out.{Out, ◌>>=◌}
use Rattle.types.specs.Memory.{Holds}
use Rattle.types.specs.declared.Counters.{Counters}
use Rattle.names.specs.Table.{IsTable}
use Rattle.sheet_reading.specs.declared.Contents.{Contents}
use Rattle.sheet_reading.specs.Sheet.{Sheet, contents, ended, read_sheet_in}

-- memory of full size that is all zero: it holds the arena without a node
pub record Blank (w s : List ℕ) : Type 0 where
  pub all_words : length w ≡ 16384
  pub all_starts : length s ≡ 4096
  pub words : w ≡ replicate (length w) 0
  pub starts : s ≡ replicate (length s) 0

-- a sheet, whose table ends before byte `e` and whose arena lies in memory, and which has its root there; or a refusal. What words and starts hold after a refusal is free
pub data Says (input w s : List ℕ) : Out Contents → Out Sheet → Type 0 where
  sheet : {e : ℕ} {c : Counters} {sh : Sheet} → 6 ≤ e → e ≤ length input → IsTable (take (e - 6) (drop 6 input)) sh.names
      → Holds (length sh.names) w s c sh.arena → sh.root < c.nodes
      → Says input w s (Ok (record { end = e; counters = c; root = sh.root })) (Ok sh)
  refused : {n : Refusal} → Says input w s (Err n) (Err n)

pub record ReadsSheet (l : Layout) (input w s : List ℕ) (r : Out Contents) : Type 0 where
  pub is : Says input w s r (read_sheet_in l input)

-- the bytes that may be read are the first of the input
pub record Readable (input bytes : List ℕ) : Type 0 where
  pub is : bytes ≡ take 65536 input

-- so many of them are there that there is an opening, and memory is blank
pub record Opened (input bytes w s : List ℕ) : Type 0 where
  pub cut : Readable input bytes
  pub some : 6 ≤ length bytes
  pub blank : Blank w s

pub record ReadsContents (l : Layout) (input bytes : List ℕ) (names nodes root : ℕ) (w s : List ℕ) (r : Out Contents) : Type 0 where
  pub is : Says input w s r (contents l (record { names = names; nodes = nodes; root = root }) (drop 6 bytes) >>= ended (length input))
