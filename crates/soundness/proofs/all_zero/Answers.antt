-- `all_zero` cuts the words into four quarters and a rest.
use Rattle.soundness.proofs.Zeros.{first_quarter, second_quarter, third_quarter, fourth_quarter, quarters_alike, quarters_zero}
use Rattle.soundness.proofs.all_zero.Goals as goal

pub slice_bounds-four_zero-end : goal.slice_bounds-four_zero-end
slice_bounds-four_zero-end c = search first_quarter

pub slice_bounds-four_zero-end-2 : goal.slice_bounds-four_zero-end-2
slice_bounds-four_zero-end-2 c = search second_quarter

pub slice_bounds-four_zero-end-3 : goal.slice_bounds-four_zero-end-3
slice_bounds-four_zero-end-3 c = search third_quarter

pub slice_bounds-four_zero-end-4 : goal.slice_bounds-four_zero-end-4
slice_bounds-four_zero-end-4 c = search fourth_quarter

pub four_zero-requires : goal.four_zero-requires
four_zero-requires c = search quarters_alike

pub returns : goal.returns
returns c = search quarters_zero
