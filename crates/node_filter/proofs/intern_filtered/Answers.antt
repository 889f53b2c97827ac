use Rattle.node_filter.proofs.Filters.{covers_kept, covers_added}
use Rattle.node_store.proofs.Additions.{fresh_searched, number_fits, answer_stored, nothing_there}
use Rattle.node_filter.proofs.intern_filtered.Goals as goal

pub find_filtered-requires-clause-searched : goal.find_filtered-requires-clause-searched
find_filtered-requires-clause-searched c = search fresh_searched

pub overflow_cast-result : goal.overflow_cast-result
overflow_cast-result c = search number_fits

pub returns-in-Some-clause-interns : goal.returns-in-Some-clause-interns
returns-in-Some-clause-interns c = search answer_stored

pub returns-in-Some-clause-covers_after : goal.returns-in-Some-clause-covers_after
returns-in-Some-clause-covers_after c = search covers_kept

pub add_node-requires-clause-absent : goal.add_node-requires-clause-absent
add_node-requires-clause-absent c = nothing_there c.find_filtered.ensures c.in_default.is

pub returns-clause-covers_after : goal.returns-clause-covers_after
returns-clause-covers_after c = covers_added c.requires.fresh (nothing_there c.find_filtered.ensures c.in_default.is) c.requires.covers_lent c.hash-h.ensures c.set_bits.ensures c.add_node.ensures
