use Rattle.importing.proofs.Searching.{searching_start, searching_here, searching_long, searching_found, searching_more, searching_done}
use Rattle.importing.proofs.lacking.lacks_name.Goals as goal

pub loop-n-init : goal.loop-n-init
loop-n-init c = search searching_start

pub lacks_met-requires-clause-in_range : goal.lacks_met-requires-clause-in_range
lacks_met-requires-clause-in_range c = search searching_here

pub lacks_met-requires-clause-names_len : goal.lacks_met-requires-clause-names_len
lacks_met-requires-clause-names_len c = search searching_long

pub returns-then-lacks_met : goal.returns-then-lacks_met
returns-then-lacks_met c = search searching_found

pub loop-n-preserved : goal.loop-n-preserved
loop-n-preserved c = search searching_more

pub returns : goal.returns
returns c = search searching_done
