use Rattle.sheet_reading.proofs.Copying.{copy_start, copy_inside, copy_item, copy_more, copy_long, copy_done}
use Rattle.sheet_reading.proofs.nodes.copy_words.Goals as goal

pub loop-i-init : goal.loop-i-init
loop-i-init c = search copy_start

pub word-requires : goal.word-requires
word-requires c = search copy_inside

pub bounds-words-i : goal.bounds-words-i
bounds-words-i c = search copy_item

pub loop-i-preserved : goal.loop-i-preserved
loop-i-preserved c = search copy_more

pub shape_of-words : goal.shape_of-words
shape_of-words c = search copy_long

pub returns : goal.returns
returns c = search copy_done
