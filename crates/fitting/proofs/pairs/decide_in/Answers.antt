use Rattle.fitting.proofs.Deciding.{deciding_against, deciding_more, root_cast, deciding_pair, deciding_done}
use Rattle.fitting.proofs.pairs.decide_in.Goals as goal

pub row_of-row-requires : goal.row_of-row-requires
row_of-row-requires c = search deciding_against

pub loop-n-preserved : goal.loop-n-preserved
loop-n-preserved c =
    deciding_more c.loop-n.invariant c.loop-n-test.true c.node_at.ensures c.row_of-row.ensures
    c.store.ensures

pub overflow_cast-root : goal.overflow_cast-root
overflow_cast-root c = search root_cast

pub fits_pair-requires : goal.fits_pair-requires
fits_pair-requires c = search deciding_pair

pub returns : goal.returns
returns c = search deciding_done
