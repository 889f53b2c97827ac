-- The text fits under the limit, or every byte is cleared.
use Rattle.names.proofs.Places.{unplaced}
use Rattle.display.proofs.Replies.{limit_length, displays_nine, displays_text}
use Rattle.display.proofs.display_in.Goals as goal

pub find_places-requires : goal.find_places-requires
find_places-requires c = search unplaced

pub slice_bounds-write_ty-end-2 : goal.slice_bounds-write_ty-end-2
slice_bounds-write_ty-end-2 c = search limit_length

pub returns-then-end-limit : goal.returns-then-end-limit
returns-then-end-limit c = search displays_nine

pub returns : goal.returns
returns c = search displays_text
