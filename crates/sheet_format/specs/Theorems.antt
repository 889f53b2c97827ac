-- What is shown of the line of a sheet beyond the contracts.
use Rattle.std.specs.Prelude.{◌≡◌, map}
use Rattle.sheet_format.specs.Line.{sheet_line}
use Rattle.sheet_format.specs.Worked.{Case, worked}

-- every small sheet has the line that its case says
abbrev pub WorkedSo : Type 0
WorkedSo = map (λ (c : Case). sheet_line c.sheet) worked ≡ map (λ (c : Case). c.line) worked
