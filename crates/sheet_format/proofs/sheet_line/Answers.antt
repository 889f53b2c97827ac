-- Memory is blank, and the line fits.
use Rattle.sheet_format.proofs.Lines.{text_inside, text_length, line_refused, line_type}
use Rattle.sheet_format.proofs.sheet_line.Goals as goal

pub slice_bounds-text-end : goal.slice_bounds-text-end
slice_bounds-text-end c = search text_inside

pub slice_bounds-write_type-end-in-Ok : goal.slice_bounds-write_type-end-in-Ok
slice_bounds-write_type-end-in-Ok c = search text_length

pub returns-in-Err : goal.returns-in-Err
returns-in-Err c = search line_refused

pub returns-in-Ok : goal.returns-in-Ok
returns-in-Ok c = search line_type
