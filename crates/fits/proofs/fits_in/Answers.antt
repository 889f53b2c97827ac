-- 6, 13 and 14 in their order, then what the rows say.
use Rattle.fits.proofs.Answering.{no_root, places_long, no_fix, has_variable, decidable, decided}
use borrow.Author.Rules.{rules}
use Rattle.fits.proofs.fits_in.Goals as goal

pub returns-then-root-c : goal.returns-then-root-c
returns-then-root-c c = search no_root

pub returns-then-count-eq0 : goal.returns-then-count-eq0
returns-then-count-eq0 c = search no_fix

pub returns-then-has_var : goal.returns-then-has_var
returns-then-has_var c = search has_variable

pub slice_bounds-decide-end : goal.slice_bounds-decide-end
slice_bounds-decide-end c = search (rules, places_long)

pub decide-requires : goal.decide-requires
decide-requires c = search decidable

pub returns : goal.returns
returns c = search decided
