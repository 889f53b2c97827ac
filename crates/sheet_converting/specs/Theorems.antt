-- What is shown of converted sheets, and of old sheets that aren't converted (02, A2).
use Rattle.std.specs.Prelude.{ℕ, ◌^◌, ◌<◌, ◌≡◌, Bool, true, false, ◌&&◌, List, [], ◌∷◌, ◌++◌, map, length, Ok, Err}
use Rattle.words.specs.Words.{field_word, old_field_word}
use Rattle.words.specs.declared.Layout.TheVariants as layout
use Rattle.types.specs.declared.refusal.Refusal.{Refusal}
use Rattle.types.specs.declared.refusal.Refusal.TheVariants as refusal
use Rattle.types.specs.Out.{Out}
use Rattle.types.specs.Node.{tag, names, below}
use Rattle.types.specs.Arena.{Arena}
use Rattle.types.specs.Memory.{flat_in, flat}
use Rattle.display.specs.Reply.{reply}
use Rattle.sheet_reading.specs.Sheet.{Sheet, read_sheet_in, read_sheet}
use Rattle.sheet_writing.specs.Bytes.{words_bytes, sheet_bytes}
use Rattle.sheet_converting.specs.Convert.{convert_reply}
use Rattle.sheet_converting.specs.Worked.{Case, worked}

-- the bytes that `convert_sheet` leaves are a sheet of as many bytes, and today's rules read in it what the old ones did: the same names,
-- nodes and root
pub record ReadsAlike (b : List ℕ) (sh : Sheet) : Type 0 where
  pub is : convert_reply b ≡ reply (Ok (length b)) (sheet_bytes sh)
  pub long : length (sheet_bytes sh) ≡ length b
  pub reads : read_sheet (sheet_bytes sh) ≡ Ok sh

-- that is so of every old sheet that the old rules accept
abbrev pub ConvertedReads : Type 0
ConvertedReads = (b : List ℕ) (sh : Sheet) → below 256 b ≡ true → read_sheet_in layout.Old b ≡ Ok sh → ReadsAlike b sh

-- a word stays as it is, or is the old word of a field and becomes the new word of that field
pub data Word : ℕ → ℕ → Type 0 where
  kept : {w : ℕ} → Word w w
  field : (optional : Bool) (name child : ℕ) → name < 2 ^ 8 → child < 2 ^ 12
      → Word (old_field_word optional name child) (field_word optional name child)

-- that is so of each word of a list, in turn
pub data Words : List ℕ → List ℕ → Type 0 where
  none : Words [] []
  more : {v w : ℕ} {vs ws : List ℕ} → Word v w → Words vs ws → Words (v ∷ vs) (w ∷ ws)

-- only field words change: before the words of the nodes all bytes stay; the words are those of the same nodes in the two layouts, which by
-- `encode_in` differ in the field words of sets and of `Named` alone, and each word stays or is a field's
pub record OnlyFields (b b' : List ℕ) : Type 0 where
  pub front : List ℕ
  pub nodes : Arena
  pub before : b ≡ front ++ words_bytes (flat_in layout.Old nodes)
  pub after : b' ≡ front ++ words_bytes (flat nodes)
  pub words : Words (flat_in layout.Old nodes) (flat nodes)

-- that is so of every old sheet that is converted
abbrev pub FieldsChange : Type 0
FieldsChange = (b b' : List ℕ) (n : ℕ) → below 256 b ≡ true → convert_reply b ≡ reply (Ok n) b' → OnlyFields b b'

-- an outcome that is a refusal
pub data Refused {A : Type 0} : Out A → Type 0 where
  refused : {e : Refusal} → Refused (Err e)

-- 11 is answered, with the bytes as lent, exactly where the old rules refuse the sheet
pub record Eleven (b : List ℕ) : Type 0 where
  pub refused : (e : Refusal) → read_sheet_in layout.Old b ≡ Err e → convert_reply b ≡ reply (Err refusal.OldSheetRefused) b
  pub only : (e : Refusal) (b' : List ℕ) → convert_reply b ≡ reply (Err e) b' → Refused (read_sheet_in layout.Old b)

-- has no node, reachable or not, a name number above 0?
unfoldable pub first_name_only : Arena → Bool
unfolding below
first_name_only [] = true
first_name_only (x ∷ s) = below 1 (names (tag x)) && first_name_only s

-- under today's rules an old sheet reads as it did, or is refused by 4
pub record Unconverted (b : List ℕ) (sh : Sheet) : Type 0 where
  pub alike : first_name_only sh.arena ≡ true → read_sheet b ≡ Ok sh
  pub four : first_name_only sh.arena ≡ false → read_sheet b ≡ Err refusal.OutOfRange

-- that is so of every old sheet that the old rules accept
abbrev pub OldSheets : Type 0
OldSheets = (b : List ℕ) (sh : Sheet) → below 256 b ≡ true → read_sheet_in layout.Old b ≡ Ok sh → Unconverted b sh

-- every small sheet becomes what its case has
abbrev pub WorkedSo : Type 0
WorkedSo = map (λ (c : Case). convert_reply c.sheet) worked ≡ map (λ (c : Case). c.gives) worked
