use Rattle.questions.proofs.VarWalks.{looking_small, looking_found, looking_more, looking_done}
use Rattle.questions.proofs.vars.some_child.Goals as goal

pub test-requires : goal.test-requires
test-requires c = search looking_small

pub returns-then-test : goal.returns-then-test
returns-then-test c = search looking_found

pub loop-i-preserved : goal.loop-i-preserved
loop-i-preserved c = search looking_more

pub returns : goal.returns
returns c = search looking_done
