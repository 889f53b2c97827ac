-- One test after another, in the order of the definition.
use Rattle.words.specs.Words.{head_count}
use Rattle.sheet_reading.proofs.Measuring.{head_missing, head_bad, body_missing, node_whole}
use borrow.Author.Rules.{rules}
use Rattle.sheet_reading.proofs.nodes.node_end.Goals as goal

pub returns-then-left-lt4 : goal.returns-then-left-lt4
returns-then-left-lt4 c = search head_missing

pub overflow_mul-size : goal.overflow_mul-size
unfolding head_count
overflow_mul-size c = search rules

pub overflow_add-size : goal.overflow_add-size
unfolding head_count
overflow_add-size c = search rules

pub returns-then-left-size : goal.returns-then-left-size
returns-then-left-size c = search body_missing

pub returns-then-fits : goal.returns-then-fits
returns-then-fits c = search node_whole

pub returns : goal.returns
returns c = search head_bad
