-- A member that is there, a new one, and a 65th.
use Rattle.member_lists.proofs.Copying.{adding_row, member_there, member_new, no_room}
use Rattle.member_lists.proofs.growing.append.Goals as goal

pub returns-then-test : goal.returns-then-test
returns-then-test c = search member_there

pub put-requires : goal.put-requires
put-requires c = search adding_row

pub returns-then-count-lt64 : goal.returns-then-count-lt64
returns-then-count-lt64 c = search member_new

pub returns : goal.returns
returns c = search no_room
