-- What is longer than a sheet may be by its table or its words alone doesn't fit, so that the sum is small.
use Rattle.sheet_writing.proofs.Writing.{over_table, over_words, over_limit, within_limit}
use Rattle.sheet_writing.proofs.fits_bytes.Goals as goal

pub returns-then-table-gt-LIMIT : goal.returns-then-table-gt-LIMIT
returns-then-table-gt-LIMIT c = search over_table

pub returns-then-words-gt-LIMIT : goal.returns-then-words-gt-LIMIT
returns-then-words-gt-LIMIT c = search over_words

pub returns-then-size-gt-LIMIT : goal.returns-then-size-gt-LIMIT
returns-then-size-gt-LIMIT c = search over_limit

pub returns : goal.returns
returns c = search within_limit
