-- Decided or not.
use Rattle.member_lists.proofs.Closings.{closing_gathers, closed_decided, closed_open}
use Rattle.member_lists.proofs.Covering.{covers_member}
use Rattle.member_lists.proofs.close_list.Goals as goal

pub decider-requires : goal.decider-requires
decider-requires c = search closing_gathers

pub returns-in-Some-clause-closes : goal.returns-in-Some-clause-closes
returns-in-Some-clause-closes c = search closed_decided

pub returns-in-Some-clause-covers_closed : goal.returns-in-Some-clause-covers_closed
returns-in-Some-clause-covers_closed c = search covers_member

pub close_open-requires-clause-gathering : goal.close_open-requires-clause-gathering
close_open-requires-clause-gathering c = search closing_gathers

pub returns-clause-closes : goal.returns-clause-closes
returns-clause-closes c = search closed_open
