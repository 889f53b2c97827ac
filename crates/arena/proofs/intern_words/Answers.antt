-- A fault is the answer; words without one are a node's.
use Rattle.types.proofs.Refusals.{passed}
use Rattle.node_store.proofs.Additions.{words_fresh}
use Rattle.arena.proofs.Answers.{words_fault, words_node}
use Rattle.arena.proofs.intern_words.Goals as goal

pub returns-in_err-check_node : goal.returns-in_err-check_node
returns-in_err-check_node c = rw (passed _ _ c.from_residual.ensures.1) (words_fault c.in_err-check_node.ensures)

pub intern_node-requires : goal.intern_node-requires
intern_node-requires c = search (words_fresh, c.in_ok-check_node.ensures)

pub returns : goal.returns
returns c = search (words_node, c.in_ok-check_node.ensures)
