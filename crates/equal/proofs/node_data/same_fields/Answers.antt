use Rattle.equal.proofs.Fields.{fields_start, fields_other, fields_more, fields_done}
use Rattle.equal.proofs.node_data.same_fields.Goals as goal

pub loop-i-init : goal.loop-i-init
loop-i-init c = search fields_start

pub returns-then-not-same_field : goal.returns-then-not-same_field
returns-then-not-same_field c = search fields_other

pub loop-i-preserved : goal.loop-i-preserved
loop-i-preserved c = search fields_more

pub returns : goal.returns
returns c = search fields_done
