-- The members of a list are never none.
use Rattle.pass.proofs.Gathering.{member_there, member_read}
use Rattle.pass.proofs.apply.first_member.Goals as goal

pub bounds-body-0 : goal.bounds-body-0
bounds-body-0 c = search member_there

pub returns : goal.returns
returns c = search member_read
