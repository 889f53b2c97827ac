-- The pieces of the line, one behind another.
use Rattle.sheet_format.proofs.Lines.{type_written}
use Rattle.sheet_format.proofs.write_type.Goals as goal

pub returns : goal.returns
returns c = type_written _ _ _ c.append_number-count.ensures c.append_number-count-2.ensures c.append-end.ensures c.append.ensures
