-- A backslash or nothing, then the byte.
use Rattle.appending.proofs.SpelledNames.{byte_written}
use Rattle.appending.proofs.spelled.write_byte.Goals as goal

pub returns : goal.returns
returns c = search byte_written
