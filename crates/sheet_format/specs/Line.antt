-- The line of a sheet (01, "A sheet and its line"; its names: 02, A1).
use Rattle.std.specs.Prelude.{ℕ, ◌≤◌, true, false, List, [], ◌∷◌, ◌++◌, length, drop, leb, ◌≡◌, Ok, Err}
use Rattle.words.specs.declared.Layout.{Layout}
use Rattle.words.specs.declared.Layout.TheVariants as layout
use Rattle.types.specs.declared.refusal.Refusal.TheVariants as refusal
use Rattle.types.specs.Refusal.{number_of}
use Rattle.types.specs.Out.{Out, ◌>>=◌}
use Rattle.types.specs.Bytes.{bytes}
use Rattle.types.specs.Decimal.{decimal}
use Rattle.simplification.specs.Passes.{AfterPasses, simplify}
use Rattle.spelling.specs.declared.Spelling.TheVariants as spelling
use Rattle.text_writing.specs.Text.{type_text}
use Rattle.sheet_reading.specs.Sheet.{Sheet, read_sheet_in}

-- what the type of a sheet's root becomes: the root after `simplify`, the passes made, the text
pub record Outcome : Type 0 where
  pub root : ℕ
  pub passes : ℕ
  pub text : List ℕ

-- 65,536 bytes of text are lent; 9 where it is longer
unfoldable pub limited : List ℕ → Out (List ℕ)
limited x = elim (leb (length x) 65536) [ true ↦ Ok x | false ↦ Err refusal.TextTooLong ]

-- what a finished run of `simplify` gives, printed in the arena after, with the sheet's names as the Nix manual writes them (02, A1)
unfoldable pub printed : Sheet → AfterPasses → Out Outcome
unfolding limited type_text ◌>>=◌
printed sh q =
    limited (type_text spelling.Nix sh.names q.arena q.root)
    >>= λ (x : List ℕ). Ok (record { root = q.root; passes = length q.taken; text = x })

-- the type of the sheet's root, simplified in an arena of full size; 7 and 8 come from there
unfoldable pub sheet_type : Sheet → Out Outcome
unfolding simplify printed ◌>>=◌
sheet_type sh = simplify 16384 4096 sh.root sh.arena >>= printed sh

-- the same from the bytes of the sheet, or the first fault met
unfoldable pub sheet_answer_in : Layout → List ℕ → Out Outcome
unfolding read_sheet_in sheet_type ◌>>=◌
sheet_answer_in l input = read_sheet_in l input >>= sheet_type

abbrev pub sheet_answer : List ℕ → Out Outcome
sheet_answer = sheet_answer_in layout.New

-- root, passes and text, split by spaces; the line ends with byte 10
unfoldable pub type_line : ℕ → ℕ → List ℕ → List ℕ
unfolding decimal
type_line root passes text = decimal root ++ bytes " " ++ decimal passes ++ bytes " " ++ text ++ (10 ∷ [])

-- `refused` and the number
unfoldable pub refused_line : ℕ → List ℕ
unfolding decimal
refused_line e = bytes "refused " ++ decimal e ++ (10 ∷ [])

unfoldable pub line_of : Out Outcome → List ℕ
unfolding type_line refused_line
line_of (Ok v) = type_line v.root v.passes v.text
line_of (Err e) = refused_line (number_of e)

-- the line of the sheet with these bytes; that of an old sheet is what it was (02, A2)
unfoldable pub sheet_line_in : Layout → List ℕ → List ℕ
unfolding line_of sheet_answer_in
sheet_line_in l input = line_of (sheet_answer_in l input)

abbrev pub sheet_line : List ℕ → List ℕ
sheet_line = sheet_line_in layout.New

-- r is the length of the sheet's line, which fits and stands first in the bytes b; the others are as they were
pub record WritesLine (input b b' : List ℕ) (r : ℕ) : Type 0 where
  pub count : r ≡ length (sheet_line input)
  pub fits : r ≤ length b'
  pub bytes : b' ≡ sheet_line input ++ drop r b
