-- A member at its place.
use Rattle.member_sorting.proofs.Inserting.{inserted}
use Rattle.member_sorting.proofs.insert_member.Goals as goal

pub returns : goal.returns
returns c = search inserted
