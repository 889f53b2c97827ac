-- What the functions that answer for a sheet in memory ask and answer.
use Rattle.std.specs.Prelude.{ℕ, ◌≤◌, ◌≡◌, Bool, List, length}
use Rattle.types.specs.Out.{Out}
use Rattle.types.specs.Memory.{Holds}
use Rattle.types.specs.declared.Counters.{Counters}
use Rattle.names.specs.Table.{IsTable}
use Rattle.appending.specs.Inner.{Writes}
use Rattle.sheet_reading.specs.Sheet.{Sheet}
use Rattle.fit.specs.Fit.{fix_answer, answer_line}

-- memory holds the arena of a sheet, whose table is t
pub record SheetIn (t w s : List ℕ) (c : Counters) (root : ℕ) : Type 0 where
  pub sheet : Sheet
  pub table : IsTable t sheet.names
  pub holds : Holds (length sheet.names) w s c sheet.arena

-- o is the answer of any sheet whose arena memory holds
pub record AnswersFix (t w s : List ℕ) (c : Counters) (root : ℕ) (bs : List ℕ) (o : Out Bool) : Type 0 where
  pub is : (sh : Sheet) → IsTable t sh.names → Holds (length sh.names) w s c sh.arena → root ≡ sh.root → o ≡ fix_answer bs sh

-- the line of the answer, which has at most 19 bytes, is written
pub record WritesAnswer (b : List ℕ) (o : Out Bool) (b' : List ℕ) (r : ℕ) : Type 0 where
  pub is : Writes b 0 (answer_line o) b' r
  pub few : length (answer_line o) ≤ 19
