-- The four bytes are those of the word.
use Rattle.sheet_writing.proofs.Writing.{word_written}
use Rattle.sheet_writing.proofs.write_word.Goals as goal

pub returns : goal.returns
returns c = word_written c.args.word c.to_be_bytes.ensures c.append.ensures
