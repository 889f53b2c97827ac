-- The line fits.
use Rattle.fit.proofs.Answering.{line_told}
use Rattle.fit.proofs.fit_line.Goals as goal

pub returns : goal.returns
returns c = search line_told
