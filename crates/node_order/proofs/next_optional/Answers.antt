use Rattle.node_order.proofs.Optionals.{skipped_start, skipped_more, skipped_found, skipped_all}
use Rattle.node_order.proofs.next_optional.Goals as goal

pub loop-i-init : goal.loop-i-init
loop-i-init c = search skipped_start

pub returns-then-field_optional : goal.returns-then-field_optional
returns-then-field_optional c = search skipped_found

pub loop-i-preserved : goal.loop-i-preserved
loop-i-preserved c = search skipped_more

pub returns : goal.returns
returns c = search skipped_all
