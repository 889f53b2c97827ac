-- A 65th member, or the list.
use Rattle.member_lists.proofs.Closings.{open_flattens, open_full, open_listing, open_finished}
use Rattle.member_lists.proofs.Covering.{covers_full}
use Rattle.member_lists.proofs.close_open.Goals as goal

pub flatten-requires : goal.flatten-requires
flatten-requires c = search open_flattens

pub returns-in-Err-clause-closes_open : goal.returns-in-Err-clause-closes_open
returns-in-Err-clause-closes_open c = search open_full

pub returns-in-Err-clause-covers_closed : goal.returns-in-Err-clause-covers_closed
returns-in-Err-clause-covers_closed c = covers_full

pub finish-requires-clause-listing : goal.finish-requires-clause-listing
finish-requires-clause-listing c = open_listing c.flatten.ensures c.in-Ok.is c.requires.gathering

pub returns-in-Ok-clause-closes_open : goal.returns-in-Ok-clause-closes_open
returns-in-Ok-clause-closes_open c = search open_finished
