-- What is found is answered; where nothing is, the node is added.
use Rattle.node_store.proofs.Additions.{fresh_searched, number_fits, answer_stored}
use Rattle.node_store.proofs.added.intern_node.Goals as goal

pub find-requires : goal.find-requires
find-requires c = search fresh_searched

pub overflow_cast-result : goal.overflow_cast-result
overflow_cast-result c = search number_fits

pub returns-in-Some : goal.returns-in-Some
returns-in-Some c = search answer_stored
