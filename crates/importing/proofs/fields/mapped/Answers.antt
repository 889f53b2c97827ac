-- A name that no table has lies past the map.
use Rattle.importing.proofs.FieldWords.{past_map, in_map}
use Rattle.importing.proofs.fields.mapped.Goals as goal

pub returns-then-name-ge4096 : goal.returns-then-name-ge4096
returns-then-name-ge4096 c = search past_map

pub returns : goal.returns
returns c = search in_map
