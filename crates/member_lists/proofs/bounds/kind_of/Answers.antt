-- The same number as a place.
use Rattle.member_lists.proofs.BoundKinds.{range_wide, kind_wide}
use Rattle.member_lists.proofs.bounds.kind_of.Goals as goal

pub kind_at-requires : goal.kind_at-requires
kind_at-requires c = search range_wide

pub returns : goal.returns
returns c = search kind_wide
