-- What is shown of the calls together.
use Rattle.std.specs.Prelude.{ℕ, ◌≡◌, true, List, Ok}
use Rattle.words.specs.declared.Layout.TheVariants as layout
use Rattle.types.specs.Node.{below}
use Rattle.display.specs.Reply.{reply}
use Rattle.sheet_converting.specs.Convert.{convert_reply}
use Rattle.sheet_format.specs.Line.{sheet_line_in, sheet_line}

-- a converted sheet has the line that the old one had, also where that is a refusal by 7, 8 or 9
abbrev pub SameLine : Type 0
SameLine =
    (b b' : List ℕ) (n : ℕ) → below 256 b ≡ true → convert_reply b ≡ reply (Ok n) b' → sheet_line b' ≡ sheet_line_in layout.Old b
