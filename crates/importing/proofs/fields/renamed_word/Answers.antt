-- The number that the map has fits a field word.
use Rattle.importing.proofs.FieldWords.{some_number, number_fits, word_renamed}
use Rattle.importing.proofs.fields.renamed_word.Goals as goal

pub overflow_sub-mapped : goal.overflow_sub-mapped
overflow_sub-mapped c = search some_number

pub field_word-requires : goal.field_word-requires
field_word-requires c = search number_fits

pub returns : goal.returns
returns c = search word_renamed
