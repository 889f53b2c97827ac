-- The bytes of the number, the most significant first.
use Rattle.sheet_reading.proofs.Numbers.{word_is}
use Rattle.sheet_reading.proofs.bytes.word.Goals as goal

pub returns : goal.returns
returns c = search word_is
