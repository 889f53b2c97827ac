-- A text of at most 11 bytes in an array, with its length and zeros after.
use Rattle.std.specs.Prelude.{ℕ, ◌-◌, List, ◌++◌, length, replicate}
use Rattle.types.specs.declared.short_text.ShortText.{ShortText}

-- the text with these bytes
unfoldable pub short_text : List ℕ → ShortText
short_text s = record { bytes = s ++ replicate (11 - length s) 0; len = length s }
