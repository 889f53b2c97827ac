use Rattle.node_filter.proofs.Filters.{bits_set}
use Rattle.node_filter.proofs.set_bits.Goals as goal

pub returns : goal.returns
returns c = bits_set c.bit.ensures c.put_row.ensures c.bit-2.ensures c.put_row-2.ensures c.bit-3.ensures c.put_row-3.ensures
