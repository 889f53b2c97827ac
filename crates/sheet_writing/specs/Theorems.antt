-- What is shown of the bytes of a sheet: reading takes exactly these, and gives back the sheet that they were made of, also where
-- `write_sheet` wrote it.
use Rattle.std.specs.Prelude.{ℕ, ◌<◌, ◌≤◌, ◌≡◌, true, List, length, take, Ok}
use Rattle.words.specs.declared.Layout.{Layout}
use Rattle.words.specs.declared.Layout.TheVariants as layout
use Rattle.types.specs.Node.{below}
use Rattle.types.specs.Arena.{Arena, sound}
use Rattle.types.specs.Memory.{flat, Holds}
use Rattle.types.specs.declared.Counters.{Counters}
use Rattle.names.specs.Table.{Name, good_names_in, IsTable}
use Rattle.display.specs.Reply.{reply}
use Rattle.sheet_reading.specs.Sheet.{Sheet, read_sheet_in, read_sheet}
use Rattle.sheet_writing.specs.Bytes.{sheet_bytes_in, sheet_bytes}
use Rattle.sheet_writing.specs.Reply.{write_sheet_reply}

-- a good table in this layout, a sound arena that one of full size holds, a root that is there, and no more bytes than a sheet may have, as
-- many in either layout
pub record GoodSheet (l : Layout) (sh : Sheet) : Type 0 where
  pub table : good_names_in l sh.names ≡ true
  pub arena : sound (length sh.names) sh.arena ≡ true
  pub few_words : length (flat sh.arena) ≤ 16384
  pub few_nodes : length sh.arena ≤ 4096
  pub root : sh.root < length sh.arena
  pub few_bytes : length (sheet_bytes sh) ≤ 65536

-- the input is what is written of the sheet in this layout, and the sheet is a good one
pub record WrittenAs (l : Layout) (input : List ℕ) (sh : Sheet) : Type 0 where
  pub bytes : input ≡ sheet_bytes_in l sh
  pub good : GoodSheet l sh

-- reading gives the table's names, the arena that memory holds, and the root
pub record ReadAgain (t w s : List ℕ) (c : Counters) (root : ℕ) (input : List ℕ) : Type 0 where
  pub names : List Name
  pub arena : Arena
  pub table : IsTable t names
  pub holds : Holds (length names) w s c arena
  pub is : read_sheet input ≡ Ok (record { names = names; arena = arena; root = root })

-- (issue 16, section 3) a good sheet is read back from its bytes; an input that is accepted consists of the bytes of the sheet that is
-- read, in either layout; what `write_sheet` wrote, where it wasn't refused, is read as what it was lent
pub record ReadsWritten : Type 0 where
  pub read_back : (sh : Sheet) → GoodSheet layout.New sh → read_sheet (sheet_bytes sh) ≡ Ok sh
  pub accepted : (l : Layout) (input : List ℕ) (sh : Sheet) → below 256 input ≡ true → read_sheet_in l input ≡ Ok sh → WrittenAs l input sh
  pub read_again : (t w s : List ℕ) (c : Counters) (root : ℕ) (b : List ℕ) (n : ℕ) (b' : List ℕ)
      → write_sheet_reply t w s c root b ≡ reply (Ok n) b' → ReadAgain t w s c root (take n b')
