-- The node is added if starts and words have room.
use Rattle.node_store.proofs.Additions.{no_starts, no_words, answer_new, nodes_room, words_room}
use Rattle.node_store.proofs.added.add_node.Goals as goal

pub overflow_sub-starts : goal.overflow_sub-starts
overflow_sub-starts c = search nodes_room

pub returns-then-starts-nodes-lt1 : goal.returns-then-starts-nodes-lt1
returns-then-starts-nodes-lt1 c = search no_starts

pub returns-then-words-used : goal.returns-then-words-used
returns-then-words-used c = search no_words

pub put-requires : goal.put-requires
put-requires c = search words_room

pub returns : goal.returns
returns c = search answer_new
