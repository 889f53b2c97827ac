-- 1 where the table is refused, and else what the search by halves finds.
use Rattle.types.proofs.Refusals.{passed}
use Rattle.name_lookup.proofs.Replies.{find_refused, find_unplaced, find_sought, find_done}
use Rattle.name_lookup.proofs.find_name.Goals as goal

pub returns-in_err-count : goal.returns-in_err-count
returns-in_err-count c = rw (passed _ _ c.from_residual.ensures.1) (find_refused _ c.in_err-count.ensures _)

pub find_places-requires : goal.find_places-requires
find_places-requires c = search (find_unplaced, c.in_ok-count.ensures)

pub find_by_halves-requires : goal.find_by_halves-requires
find_by_halves-requires c = search (find_sought, c.in_ok-count.ensures)

pub returns : goal.returns
returns c = search (find_done, c.in_ok-count.ensures)
