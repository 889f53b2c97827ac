-- The names are matched, and the loop begins with an array of zeros.
use Rattle.equal.proofs.Sweeps.{unmatched, fresh, decided}
use Rattle.equal.proofs.pairs.agree.Goals as goal

pub match_names-requires : goal.match_names-requires
match_names-requires c = search unmatched

pub sweep-requires : goal.sweep-requires
sweep-requires c = search fresh

pub returns : goal.returns
returns c = search decided
