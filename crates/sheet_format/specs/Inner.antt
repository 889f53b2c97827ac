-- What the functions that find and write a sheet's line ask and answer. What words, starts and text hold after is free, but for the text of
-- an answer.
use Rattle.std.specs.Prelude.{ℕ, ◌<◌, ◌≤◌, ◌≡◌, List, length, take, Ok, Err}
use Rattle.types.specs.declared.refusal.Refusal.{Refusal}
use Rattle.types.specs.Out.{Out}
use Rattle.types.specs.Memory.{Holds}
use Rattle.types.specs.declared.Counters.{Counters}
use Rattle.names.specs.Table.{IsTable}
use Rattle.sheet_reading.specs.Sheet.{Sheet}
use Rattle.sheet_reading.specs.Inner.Reading.{Blank}
use Rattle.sheet_format.specs.Line.{Outcome, sheet_type, sheet_answer}
use Rattle.sheet_format.specs.declared.Answer.{Answer}

-- an answer: root, passes and the length of the text, which stands first in the lent bytes; or a refusal.
-- A root has at most four digits and the passes have one
pub data Gives (text : List ℕ) : Out Answer → Out Outcome → Type 0 where
  type : {root passes n : ℕ} → root < 10000 → passes < 10 → n ≤ 65536 → n ≤ length text
      → Gives text (Ok (record { root = root; passes = passes; length = n })) (Ok (record { root = root; passes = passes; text = take n text }))
  refused : {e : Refusal} → Gives text (Err e) (Err e)

-- memory holds the arena of a sheet, whose table is t, and is of full size
pub record SheetIn (t w s : List ℕ) (c : Counters) (root : ℕ) (text : List ℕ) : Type 0 where
  pub sheet : Sheet
  pub table : IsTable t sheet.names
  pub holds : Holds (length sheet.names) w s c sheet.arena
  pub inside : root < c.nodes
  pub all_words : length w ≡ 16384
  pub all_starts : length s ≡ 4096
  pub all_text : length text ≡ 65536

pub record AnswersType (t w s : List ℕ) (c : Counters) (root : ℕ) (text : List ℕ) (r : Out Answer) : Type 0 where
  pub is : (sh : Sheet) → IsTable t sh.names → Holds (length sh.names) w s c sh.arena → root ≡ sh.root
      → Gives text r (sheet_type sh)

-- blank memory and as many bytes as a text may have
pub record Empty (w s text : List ℕ) : Type 0 where
  pub blank : Blank w s
  pub all_text : length text ≡ 65536

pub record AnswersSheet (input text : List ℕ) (r : Out Answer) : Type 0 where
  pub is : Gives text r (sheet_answer input)
