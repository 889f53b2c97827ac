-- 1 and 2 are the verdict's; what follows them is that of `fits_in`.
use Rattle.types.proofs.Refusals.{passed_on}
use Rattle.soundness.proofs.Verdicts.{lent_known}
use Rattle.fits.proofs.Answering.{fits_refused, fits_done}
use Rattle.fits.proofs.fits.Goals as goal

pub fits_in-requires : goal.fits_in-requires
fits_in-requires c = search (lent_known, c.in_ok-names.ensures)

pub returns : goal.returns
returns c = search (fits_done, c.in_ok-names.ensures)

pub returns-in_err-names : goal.returns-in_err-names
returns-in_err-names c = passed_on c.from_residual.ensures.1 (fits_refused _ _ _ _ _ _ c.in_err-names.ensures)
