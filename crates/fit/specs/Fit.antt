-- The line of the program `fit` (02, A5). Its input is a length of 32 bits, a sheet of that many bytes, then a fix to the end, all most
-- significant byte first.
use Rattle.std.specs.Prelude.{ℕ, ◌*◌, ◌/◌, ◌%◌, ◌≤◌, ◌≡◌, Bool, true, false, List, ◌++◌, length, drop, eqb, leb, Ok, Err}
use Rattle.types.specs.declared.refusal.Refusal.TheVariants as refusal
use Rattle.types.specs.Refusal.{number_of}
use Rattle.types.specs.Out.{Out, ◌>>=◌}
use Rattle.types.specs.Bytes.{bytes}
use Rattle.sheet_reading.specs.Sheet.{Sheet, several, number, words, read_sheet, read_sheet_in}
use Rattle.sheet_format.specs.Line.{refused_line}
use Rattle.fits.specs.Fits.{fits_root}

-- the words of a fix; 10 for over 131,072 words, then 13 for bytes that are no whole words
unfoldable pub fix_words : List ℕ → Out (List ℕ)
unfolding words
fix_words bs = elim (leb (length bs) (4 * 131072)) [
  | false ↦ Err refusal.MalformedSheet
  | true ↦ elim (eqb (length bs % 4) 0) [ false ↦ Err refusal.MalformedFix | true ↦ Ok (words (length bs / 4) bs) ]
]

-- whether the fix in these bytes fits the type of the sheet's root, which isn't simplified
unfoldable pub fix_answer : List ℕ → Sheet → Out Bool
unfolding fix_words fits_root ◌>>=◌
fix_answer bs sh = fix_words bs >>= λ (ws : List ℕ). fits_root (length sh.names) sh.root ws sh.arena

-- before that the sheet's own faults
unfoldable pub sheet_answer : List ℕ → List ℕ → Out Bool
unfolding read_sheet_in fix_answer ◌>>=◌
sheet_answer sheet bs = read_sheet sheet >>= fix_answer bs

-- before that 10, where the input ends inside the length or the sheet, or the length is over 65,536
unfoldable pub fit_answer : List ℕ → Out Bool
unfolding number several sheet_answer ◌>>=◌
fit_answer input = number 4 input >>= λ (n : ℕ × List ℕ). elim (leb n.0 65536) [
  | false ↦ Err refusal.MalformedSheet
  | true ↦ several n.0 n.1 >>= λ (r : List ℕ × List ℕ). sheet_answer r.0 r.1
]

-- yes, no, or the refusal as of a sheet
unfoldable pub answer_line : Out Bool → List ℕ
unfolding refused_line
answer_line (Ok true) = bytes "yes\n"
answer_line (Ok false) = bytes "no\n"
answer_line (Err e) = refused_line (number_of e)

unfoldable pub fit_line : List ℕ → List ℕ
unfolding answer_line fit_answer
fit_line input = answer_line (fit_answer input)

-- r is the length of the line, which fits and stands first in the bytes b; the others are as they were
pub record WritesFit (input b b' : List ℕ) (r : ℕ) : Type 0 where
  pub count : r ≡ length (fit_line input)
  pub fits : r ≤ length b'
  pub bytes : b' ≡ fit_line input ++ drop r b
