-- What `convert_sheet` answers and leaves.
use Rattle.std.specs.Prelude.{List, ℕ, length, Ok, Err}
use Rattle.words.specs.declared.Layout.TheVariants as layout
use Rattle.types.specs.declared.refusal.Refusal.TheVariants as refusal
use Rattle.types.specs.Out.{Out}
use Rattle.display.specs.Reply.{Reply, reply}
use Rattle.sheet_reading.specs.Sheet.{Sheet, read_sheet_in}
use Rattle.sheet_writing.specs.Bytes.{sheet_bytes}

-- the lent bytes b and what the old rules read in them: the same sheet in today's layout, with its length; one refusal in place of theirs,
-- and then the bytes as lent
unfoldable pub converting : List ℕ → Out Sheet → Reply
unfolding sheet_bytes
converting b (Ok sh) = reply (Ok (length (sheet_bytes sh))) (sheet_bytes sh)
converting b (Err e) = reply (Err refusal.OldSheetRefused) b

-- the old sheet with these bytes
unfoldable pub convert_reply : List ℕ → Reply
unfolding converting read_sheet_in
convert_reply b = converting b (read_sheet_in layout.Old b)

-- an answer with the bytes as left
abbrev pub left : Out (Unit {0}) → List ℕ → Reply
left (Ok tt) b = reply (Ok (length b)) b
left (Err e) b = reply (Err e) b
