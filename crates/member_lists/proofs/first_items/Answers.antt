-- All items where more are asked for.
use Rattle.member_lists.proofs.Closings.{items_cut, items_all}
use Rattle.member_lists.proofs.first_items.Goals as goal

pub slice_bounds-result-end : goal.slice_bounds-result-end
slice_bounds-result-end c = search items_cut

pub returns : goal.returns
returns c = search items_all
