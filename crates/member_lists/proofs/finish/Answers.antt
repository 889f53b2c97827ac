-- None, one, several.
use Rattle.member_lists.proofs.Closings.{finish_none, finish_one, finish_ready, finish_several}
use Rattle.member_lists.proofs.Covering.{covers_empty, covers_member, covers_done}
use Rattle.member_lists.proofs.finish.Goals as goal

pub returns-then-list-eq0-clause-finishes : goal.returns-then-list-eq0-clause-finishes
returns-then-list-eq0-clause-finishes c = search finish_none

pub returns-then-list-eq0-clause-covers_closed : goal.returns-then-list-eq0-clause-covers_closed
returns-then-list-eq0-clause-covers_closed c = search covers_empty

pub returns-then-list-eq1-clause-finishes : goal.returns-then-list-eq1-clause-finishes
returns-then-list-eq1-clause-finishes c = search finish_one

pub returns-then-list-eq1-clause-covers_closed : goal.returns-then-list-eq1-clause-covers_closed
returns-then-list-eq1-clause-covers_closed c = search covers_member

pub intern_list-requires-clause-filled : goal.intern_list-requires-clause-filled
intern_list-requires-clause-filled c = search finish_ready

pub returns-clause-finishes : goal.returns-clause-finishes
returns-clause-finishes c = search finish_several

pub returns-clause-covers_closed : goal.returns-clause-covers_closed
returns-clause-covers_closed c = search covers_done
