-- 6 for a root past the last node; else the parts are the sheet of the root.
use Rattle.sheet_writing.proofs.Replies.{used_length, root_six, root_sheet}
use Rattle.sheet_writing.proofs.write_root.Goals as goal

pub returns-then-wide-c : goal.returns-then-wide-c
returns-then-wide-c c = search root_six

pub slice_bounds-write_parts-end : goal.slice_bounds-write_parts-end
slice_bounds-write_parts-end c = search used_length

pub returns : goal.returns
returns c = search root_sheet
