-- What `write_sheet` answers and leaves (01, "Who can cause which number"; issue 16, section 3).
use Rattle.std.specs.Prelude.{ℕ, min, true, false, List, ◌++◌, length, drop, leb, Ok, Err}
use Rattle.types.specs.declared.refusal.Refusal.TheVariants as refusal
use Rattle.types.specs.Out.{Out, ◌>>=◌}
use Rattle.types.specs.Arena.{Arena}
use Rattle.types.specs.declared.Counters.{Counters}
use Rattle.names.specs.Table.{Name, split}
use Rattle.walks.specs.Asked.{ask_reply}
use Rattle.display.specs.Reply.{Reply, reply}
use Rattle.sheet_writing.specs.Bytes.{sheet_bytes}

-- the bytes of the sheet with these names, this arena and this root
unfoldable pub bytes_with : List Name → Arena → ℕ → List ℕ
unfolding sheet_bytes
bytes_with ns a root = sheet_bytes (record { names = ns; arena = a; root = root })

-- 9 for a sheet that exceeds the lent bytes b, or 65,536
unfoldable pub fitting : List ℕ → List ℕ → Out (List ℕ)
fitting b x = elim (leb (length x) (min (length b) 65536)) [ true ↦ Ok x | false ↦ Err refusal.TextTooLong ]

-- the length of the sheet, which stands first in the lent bytes, with those past it as they were; a refusal leaves them as lent
unfoldable pub reply_of : List ℕ → Out (List ℕ) → Reply
reply_of b (Ok x) = reply (Ok (length x)) (x ++ drop (length x) b)
reply_of b (Err e) = reply (Err e) b

-- 1, 2 and 6, then 9, then the sheet with the names of the table t, the arena that memory holds, and the root
unfoldable pub write_sheet_reply : List ℕ → List ℕ → List ℕ → Counters → ℕ → List ℕ → Reply
unfolding reply_of ask_reply split bytes_with fitting ◌>>=◌
write_sheet_reply t w s c root b = reply_of b (ask_reply (bytes_with (split t)) t w s c root >>= fitting b)

-- an answer with the bytes as left
abbrev pub left : Out ℕ → List ℕ → Reply
left r b = reply r b
