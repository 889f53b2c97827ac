-- The opening, then what follows it.
use Rattle.sheet_reading.proofs.Sheets.{sheet_cut, sheet_opened, sheet_read}
use Rattle.sheet_reading.proofs.read_sheet.Goals as goal

pub returns-then-bytes-lt6 : goal.returns-then-bytes-lt6
returns-then-bytes-lt6 c = search sheet_cut

pub read_contents-requires : goal.read_contents-requires
read_contents-requires c = search sheet_opened

pub returns : goal.returns
returns c = search sheet_read
