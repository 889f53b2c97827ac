-- A place in the list is that of a name, and 0 that of none.
use Rattle.names.specs.Inner.{name_end}
use Rattle.names.proofs.Places.{text_past, text_none, text_low, text_placed}
use borrow.Author.Rules.{rules}
use Rattle.names.proofs.name_at.Goals as goal

pub returns-then-k-ge4096 : goal.returns-then-k-ge4096
returns-then-k-ge4096 c = search text_past

pub returns-then-start-eq0 : goal.returns-then-start-eq0
returns-then-start-eq0 c = search text_none

pub slice_bounds-result-count : goal.slice_bounds-result-count
slice_bounds-result-count c = search text_low

pub slice_bounds-result-start : goal.slice_bounds-result-start
slice_bounds-result-start c = search text_low

pub slice_bounds-result-end-2 : goal.slice_bounds-result-end-2
unfolding name_end
slice_bounds-result-end-2 c = search rules

pub returns : goal.returns
returns c = search text_placed
