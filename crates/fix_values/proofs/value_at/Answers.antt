-- A value lies at its place.
use Rattle.fix_values.proofs.Checking.{place_there, word_there, next_there, end_fits, end_small, value_there}
use borrow.Author.Rules.{rules}
use Rattle.fix_values.proofs.value_at.Goals as goal

pub offset_bounds-places-v : goal.offset_bounds-places-v
offset_bounds-places-v c = search (rules, place_there)

pub bounds-places-v : goal.bounds-places-v
bounds-places-v c = search place_there

pub offset_bounds-fix-at : goal.offset_bounds-fix-at
offset_bounds-fix-at c = search (rules, word_there)

pub bounds-fix-at : goal.bounds-fix-at
bounds-fix-at c = search word_there

pub overflow_add-end : goal.overflow_add-end
overflow_add-end c = search next_there

pub overflow_add-end-2 : goal.overflow_add-end-2
overflow_add-end-2 c = search end_small

pub offset_bounds-fix-at-2 : goal.offset_bounds-fix-at-2
offset_bounds-fix-at-2 c = search (rules, word_there)

pub slice_bounds-result-end : goal.slice_bounds-result-end
slice_bounds-result-end c = search end_fits

pub returns : goal.returns
returns c = search value_there
