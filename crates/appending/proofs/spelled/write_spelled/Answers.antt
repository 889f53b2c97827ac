-- By the spelling.
use Rattle.spelling.specs.Spelling.{spelled}
use Rattle.spelling.specs.declared.Spelling.TheVariants as spelling
use Rattle.appending.proofs.SpelledNames.{spelled_written}
use Rattle.appending.proofs.spelled.write_spelled.Goals as goal

pub returns-in-Bare : goal.returns-in-Bare
unfolding spelled
returns-in-Bare c = search (spelled_written spelling.Bare)

pub returns-in-Nix : goal.returns-in-Nix
unfolding spelled
returns-in-Nix c = search (spelled_written spelling.Nix)
