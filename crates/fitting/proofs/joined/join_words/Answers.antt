-- Each operation goes bit by bit.
use Rattle.fitting.proofs.Joining.{words_and, words_xor, words_or}
use Rattle.fitting.proofs.joined.join_words.Goals as goal

pub returns-then-kind-eq-INTERSECTION : goal.returns-then-kind-eq-INTERSECTION
returns-then-kind-eq-INTERSECTION c = search words_and

pub returns-then-kind-eq-NEG : goal.returns-then-kind-eq-NEG
returns-then-kind-eq-NEG c = search words_xor

pub returns : goal.returns
returns c = search words_or
