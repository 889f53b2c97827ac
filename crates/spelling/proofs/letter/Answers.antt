-- The letters of ASCII.
use mathlib.Core.Path.{◌∙◌}
use Rattle.spelling.proofs.Identifiers.{letter_told}
use Rattle.spelling.proofs.letter.Goals as goal

pub returns : goal.returns
returns c = c.is_ascii_alphabetic.ensures.value ∙ letter_told c.args.byte
