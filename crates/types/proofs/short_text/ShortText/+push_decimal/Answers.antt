use native.Mathlib.Omega.{arith}
use Rattle.types.proofs.Shorts.{room_digit, appended_digit, room_tenth, room_last, appended_last}
use Rattle.types.proofs.short_text.ShortText.+push_decimal.Goals as goal

pub push-requires : goal.push-requires
push-requires t c = search room_digit

pub returns-then-n-lt10 : goal.returns-then-n-lt10
returns-then-n-lt10 t c = search appended_digit

pub push_decimal-requires : goal.push_decimal-requires
push_decimal-requires t c = (omega arith, search room_tenth)

pub push-requires-2 : goal.push-requires-2
push-requires-2 t c = search room_last

pub returns : goal.returns
returns t c = search appended_last
