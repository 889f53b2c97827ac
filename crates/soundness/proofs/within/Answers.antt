-- Each limit that is broken rules an arena out; none broken, the limits hold.
use Rattle.soundness.proofs.Checks.{over_words, over_starts, over_used, over_nodes, word_left, limits}
use Rattle.soundness.proofs.within.Goals as goal

pub returns-then-words-gt16384 : goal.returns-then-words-gt16384
returns-then-words-gt16384 c = search over_words

pub returns-then-starts-gt4096 : goal.returns-then-starts-gt4096
returns-then-starts-gt4096 c = search over_starts

pub returns-then-used-words : goal.returns-then-used-words
returns-then-used-words c = search over_used

pub returns-then-nodes-starts : goal.returns-then-nodes-starts
returns-then-nodes-starts c = search over_nodes

pub returns-then-not-all_zero : goal.returns-then-not-all_zero
returns-then-not-all_zero c = search word_left

pub returns : goal.returns
returns c = search limits
