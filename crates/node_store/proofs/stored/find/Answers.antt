use Rattle.node_store.proofs.Searches.{seek_start, seek_done, seek_more, seek_hit}
use Rattle.node_store.proofs.stored.find.Goals as goal

pub loop-i-init : goal.loop-i-init
loop-i-init c = search seek_start

pub returns-then-is_there : goal.returns-then-is_there
returns-then-is_there c = search seek_hit

pub loop-i-preserved : goal.loop-i-preserved
loop-i-preserved c = search seek_more

pub returns : goal.returns
returns c = search seek_done
