-- The six bytes are those of the three numbers.
use Rattle.sheet_writing.proofs.Writing.{opening_written}
use Rattle.sheet_writing.proofs.write_opening.Goals as goal

pub returns : goal.returns
returns c =
    opening_written _ _ _ c.low_byte.ensures c.low_byte-2.ensures c.low_byte-3.ensures c.low_byte-4.ensures
    c.low_byte-5.ensures c.low_byte-6.ensures c.append.ensures
