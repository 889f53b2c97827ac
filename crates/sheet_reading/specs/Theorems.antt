-- What is shown of sheets beyond the contracts.
use Rattle.std.specs.Prelude.{◌≡◌, map}
use Rattle.sheet_reading.specs.Sheet.{read_sheet_in}
use Rattle.sheet_reading.specs.Worked.{Case, worked}

-- every small sheet says what its case has, in the layout of the case
abbrev pub WorkedSo : Type 0
WorkedSo = map (λ (c : Case). read_sheet_in c.layout c.bytes) worked ≡ map (λ (c : Case). c.says) worked
