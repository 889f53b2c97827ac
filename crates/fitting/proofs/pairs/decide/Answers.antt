-- As many rows as the type has nodes up to the root.
use Rattle.fitting.proofs.Deciding.{rows_product, all_rows}
use Rattle.fitting.proofs.pairs.decide.Goals as goal

pub overflow_mul-root : goal.overflow_mul-root
overflow_mul-root c = search rows_product

pub decide_in-requires-2 : goal.decide_in-requires-2
decide_in-requires-2 c = search all_rows
