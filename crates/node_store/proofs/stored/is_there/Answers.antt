-- A node with another head is another node; with the same head all its words are compared.
use Rattle.node_store.proofs.Stretches.{in_starts, start_fits, in_words, other_head, same_node}
use Rattle.node_store.proofs.stored.is_there.Goals as goal

pub offset_bounds-starts-n : goal.offset_bounds-starts-n
offset_bounds-starts-n c = search start_fits

pub bounds-starts-n : goal.bounds-starts-n
bounds-starts-n c = search in_starts

pub bounds-words-at : goal.bounds-words-at
bounds-words-at c = search in_words

pub returns-then-words-at : goal.returns-then-words-at
returns-then-words-at c = search other_head

pub returns : goal.returns
returns c = search same_node
