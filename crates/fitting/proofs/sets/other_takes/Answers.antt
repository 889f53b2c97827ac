-- The dynamic type decides if there is one, else the mark.
use Rattle.fitting.proofs.SetFits.{other_asked}
use Rattle.fitting.proofs.sets.other_takes.Goals as goal

pub fits_pair-requires : goal.fits_pair-requires
fits_pair-requires c = search other_asked
