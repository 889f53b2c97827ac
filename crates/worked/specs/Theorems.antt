-- What the definitions give of the worked types and names is what documents 01 and 02 say.
use Rattle.std.specs.Prelude.{◌≡◌, [], map}
use Rattle.std.proofs.Math.Option.{none, some}
use Rattle.spelling.specs.Spelling.{nix_name}
use Rattle.spelling.specs.Reading.{read_name}
use Rattle.simplification.specs.Worked as simplify
use Rattle.display.specs.Worked as display
use Rattle.worked.specs.Worked.{Case, worked, judged, sheet, held, shared, simplified, Normalized, normalized, printed}
use Rattle.worked.specs.Worked.{Spelled, spellings, Reads, readings}

-- every starred type of 01, and what else stands in its lists
pub record Starred : Type 0 where
  pub variables : map (λ (c : Case). c.gives) worked ≡ map (λ (c : Case). c.says) worked
  pub simplifies : map (λ (c : simplify.Case). c.gives) simplified ≡ map (λ (c : simplify.Case). c.says) simplified
  pub normalizes : map (λ (c : Normalized). c.gives) normalized ≡ map (λ (c : Normalized). c.says) normalized
  pub prints_so : map (λ (c : display.Case). c.gives) printed ≡ map (λ (c : display.Case). c.says) printed
  pub shares : map (λ (c : Case). c.gives) shared ≡ map (λ (c : Case). c.says) shared

-- the words of nodes are judged as its sentences say (01, "Words of the arena")
abbrev pub JudgedSo : Type 0
JudgedSo = map (λ (c : Case). c.gives) judged ≡ map (λ (c : Case). c.says) judged

-- the words of 01's sheet hold its arena
abbrev pub SheetHeld : Type 0
SheetHeld = held 0x20000001 2 ≡ some sheet

-- with a second variable 0 in place of int they hold none
abbrev pub RepeatRefused : Type 0
RepeatRefused = held 0x30000001 0 ≡ none

-- every worked name is written as 02 says, and reads back; and other texts are read as the manual says (A1)
pub record SpelledSo : Type 0 where
  pub writes : map (λ (s : Spelled). nix_name s.name) spellings ≡ map (λ (s : Spelled). s.says) spellings
  pub reads_back : map (λ (s : Spelled). read_name s.says) spellings
      ≡ map (λ (s : Spelled). some (record { name = s.name; rest = [] })) spellings
  pub reads : map (λ (r : Reads). read_name r.text) readings ≡ map (λ (r : Reads). r.says) readings
