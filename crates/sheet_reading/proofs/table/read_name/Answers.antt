-- One test after another, in the order of the definition.
use Rattle.sheet_reading.proofs.Tabling.{name_missing, length_small, length_large, text_missing, name_follows, name_refused}
use Rattle.sheet_reading.proofs.table.read_name.Goals as goal

pub returns-then-at-bytes : goal.returns-then-at-bytes
returns-then-at-bytes c = search name_missing

pub returns-then-length-lt1 : goal.returns-then-length-lt1
returns-then-length-lt1 c = search length_small

pub returns-then-length-gt64 : goal.returns-then-length-gt64
returns-then-length-gt64 c = search length_large

pub returns-then-bytes-start : goal.returns-then-bytes-start
returns-then-bytes-start c = search text_missing

pub returns-then-follows : goal.returns-then-follows
returns-then-follows c = search name_follows

pub returns-else-follows : goal.returns-else-follows
returns-else-follows c = search name_refused
