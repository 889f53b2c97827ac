use Rattle.sheet_writing.proofs.Writing.{turn_start, turn_more, turn_done}
use Rattle.sheet_writing.proofs.write_words.Goals as goal

pub loop-word-init : goal.loop-word-init
loop-word-init c = search turn_start

pub loop-word-preserved : goal.loop-word-preserved
loop-word-preserved c = search turn_more

pub returns : goal.returns
returns c = search turn_done
