use Rattle.appending.proofs.SpelledNames.{escaping_start, escaping_more, escaping_done}
use Rattle.appending.proofs.spelled.write_escaped.Goals as goal

pub loop-i-init : goal.loop-i-init
loop-i-init c = search escaping_start

pub loop-i-preserved : goal.loop-i-preserved
loop-i-preserved c = search escaping_more

pub returns : goal.returns
returns c = search escaping_done
