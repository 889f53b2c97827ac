-- What the old rules read lies in memory; its words are written behind the table, or nothing is.
use Rattle.sheet_converting.proofs.Converting.{convert_refused, words_used, words_share, convert_done}
use Rattle.sheet_converting.proofs.convert_sheet.Goals as goal

pub returns-in_default : goal.returns-in_default
returns-in_default c = search convert_refused

pub slice_bounds-words-end : goal.slice_bounds-words-end
slice_bounds-words-end c = search words_used

pub slice_bounds-write_words-end : goal.slice_bounds-write_words-end
slice_bounds-write_words-end c = search words_share

pub returns : goal.returns
returns c = search convert_done
