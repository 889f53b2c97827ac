-- In quotes unless the name is plain.
use mathlib.Core.Bool.{true, false}
use Rattle.appending.proofs.SpelledNames.{nix_written}
use Rattle.appending.proofs.spelled.write_nix.Goals as goal

pub returns-then-plain : goal.returns-then-plain
returns-then-plain c = search (nix_written true)

pub returns-else-plain : goal.returns-else-plain
returns-else-plain c = search (nix_written false)
