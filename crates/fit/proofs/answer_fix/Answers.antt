-- 10, then 13, then what `fits` says of the words.
use Rattle.fit.proofs.Answering.{fix_over, fix_odd, fix_counted, fix_told}
use Rattle.fit.proofs.answer_fix.Goals as goal

pub returns-then-bytes-gt524288 : goal.returns-then-bytes-gt524288
returns-then-bytes-gt524288 c = search fix_over

pub returns-then-bytes-ne0 : goal.returns-then-bytes-ne0
returns-then-bytes-ne0 c = search fix_odd

pub slice_bounds-fits-end : goal.slice_bounds-fits-end
slice_bounds-fits-end c = search fix_counted

pub returns : goal.returns
returns c = search fix_told
