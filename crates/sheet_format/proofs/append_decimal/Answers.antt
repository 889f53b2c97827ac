-- The digits of the number, from an empty short text.
use Rattle.sheet_format.proofs.Digits.{room_digits, digits_inside, digits_written}
use Rattle.sheet_format.proofs.append_decimal.Goals as goal

pub push_decimal-requires : goal.push_decimal-requires
push_decimal-requires c = search room_digits

pub write_short-requires : goal.write_short-requires
write_short-requires c = search digits_inside

pub returns : goal.returns
returns c = search digits_written
