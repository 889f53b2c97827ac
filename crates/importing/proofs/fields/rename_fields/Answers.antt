use Rattle.importing.proofs.FieldWords.{turn_start, turn_known, turn_more, turn_done}
use Rattle.importing.proofs.fields.rename_fields.Goals as goal

pub loop-i-init : goal.loop-i-init
loop-i-init c = search turn_start

pub renamed_word-requires : goal.renamed_word-requires
renamed_word-requires c = search turn_known

pub loop-i-preserved : goal.loop-i-preserved
loop-i-preserved c = search turn_more

pub returns : goal.returns
returns c = search turn_done
