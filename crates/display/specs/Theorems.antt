-- What is shown of the text of a type beyond the contracts.
use Rattle.std.specs.Prelude.{◌≡◌, map}
use Rattle.display.specs.Worked.{Case, worked}

-- every small type is printed as its case says
abbrev pub WorkedSo : Type 0
WorkedSo = map (λ (c : Case). c.gives) worked ≡ map (λ (c : Case). c.says) worked
