-- `code_fault` tests the one word of a primitive.
use Rattle.node_faults.proofs.Bodies.{code_good, code_high}
use Rattle.node_faults.proofs.code_fault.Goals as goal

pub returns-then-first_word-lt8 : goal.returns-then-first_word-lt8
returns-then-first_word-lt8 c = search code_good

pub returns-else-first_word-lt8 : goal.returns-else-first_word-lt8
returns-else-first_word-lt8 c = search code_high
