-- Words of kinds without children hold none, nor do no words.
use Rattle.node_store.proofs.Offspring.{empty_words, few_kinds, past_kinds, all_words}
use Rattle.node_store.proofs.children.child_words.Goals as goal

pub returns-then-node-eq0 : goal.returns-then-node-eq0
returns-then-node-eq0 c = search empty_words

pub returns-then-kind-lt-LIST : goal.returns-then-kind-lt-LIST
returns-then-kind-lt-LIST c = search few_kinds

pub returns-then-kind-gt-NEG : goal.returns-then-kind-gt-NEG
returns-then-kind-gt-NEG c = search past_kinds

pub returns : goal.returns
returns c = search all_words
