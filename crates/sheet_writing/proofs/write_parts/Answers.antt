-- 9 for what doesn't fit, with nothing written; else the three parts, one behind another.
use Rattle.sheet_writing.proofs.Writing.{parts_nine, parts_written}
use mathlib.Core.Path.{ap}
use mathlib.Core.Bool.{not}
use Rattle.sheet_writing.proofs.write_parts.Goals as goal

pub returns-then-not-fits_bytes : goal.returns-then-not-fits_bytes
returns-then-not-fits_bytes c = search parts_nine

pub returns : goal.returns
returns c =
    parts_written _ _ _ _ _ _ c.fits_bytes.ensures (ap not c.if-not-fits_bytes.false) c.wide.ensures
    c.write_opening-end.ensures c.append-end.ensures c.write_words.ensures
