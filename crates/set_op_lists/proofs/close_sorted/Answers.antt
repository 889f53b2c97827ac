-- One member, or several.
use mathlib.Core.Path.{refl}
use Rattle.node_filter.proofs.Filters.{covers_kept}
use Rattle.set_op_lists.proofs.Closing.{closing_cut, closing_sorts, closed_one, sorted_ready, closed_several}
use Rattle.set_op_lists.proofs.close_sorted.Goals as goal

pub slice_bounds-sort_members-end : goal.slice_bounds-sort_members-end
slice_bounds-sort_members-end c = search closing_cut

pub sort_members-requires : goal.sort_members-requires
sort_members-requires c = search closing_sorts

pub returns-then-count-eq1-clause-stands_for : goal.returns-then-count-eq1-clause-stands_for
returns-then-count-eq1-clause-stands_for c = search closed_one

pub returns-then-count-eq1-clause-covers_after : goal.returns-then-count-eq1-clause-covers_after
returns-then-count-eq1-clause-covers_after c = search covers_kept

pub intern_list-requires-clause-filled : goal.intern_list-requires-clause-filled
intern_list-requires-clause-filled c = sorted_ready c.requires.filled refl c.sort_members.ensures

pub returns-clause-stands_for : goal.returns-clause-stands_for
returns-clause-stands_for c = search closed_several
