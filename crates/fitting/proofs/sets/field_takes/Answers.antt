-- The field that has the name decides, or if there is none what the other fields must fit.
use native.Mathlib.Omega.{arith}
use Rattle.fitting.proofs.SetFits.{named_place, field_asked, named_takes, other_field}
use Rattle.fitting.proofs.sets.field_takes.Goals as goal

pub offset_bounds-fields-i : goal.offset_bounds-fields-i
offset_bounds-fields-i c = omega (arith, named_place _ _ _ c.named_at.ensures c.if-named_at.true)

pub bounds-fields-i : goal.bounds-fields-i
bounds-fields-i c = search named_place

pub fits_pair-requires : goal.fits_pair-requires
fits_pair-requires c = search field_asked

pub returns-then-named_at : goal.returns-then-named_at
returns-then-named_at c = search named_takes

pub returns : goal.returns
returns c = search other_field
