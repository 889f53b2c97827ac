-- The fields are the first words behind the head.
use Rattle.importing.proofs.Searching.{own_told}
use Rattle.importing.proofs.fields.lacks_own.Goals as goal

pub returns : goal.returns
returns c = search own_told
