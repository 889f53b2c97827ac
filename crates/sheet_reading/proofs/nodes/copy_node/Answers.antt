-- Words of today's layout are copied as they are, and old ones are renewed then.
use Rattle.sheet_reading.proofs.Renewing.{copied_some, copied_old, copied_new}
use Rattle.sheet_reading.proofs.Copying.{node_room}
use Rattle.sheet_reading.proofs.nodes.copy_node.Goals as goal

pub copy_words-count-requires : goal.copy_words-count-requires
copy_words-count-requires c = search node_room

pub renew_node-requires : goal.renew_node-requires
renew_node-requires c = search copied_some

pub returns-in-Old : goal.returns-in-Old
returns-in-Old c = search copied_old

pub returns-in-New : goal.returns-in-New
returns-in-New c = search copied_new
