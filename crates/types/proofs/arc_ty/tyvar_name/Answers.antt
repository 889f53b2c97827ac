-- Each way through `tyvar_name` builds the name that its definition gives there.
use borrow.Author.Rules.{rules}
use Rattle.types.proofs.Shorts.{room_of}
use Rattle.types.proofs.Tyvars.{named_unknown, named_letter, named_suffix, room_suffix}
use Rattle.types.proofs.arc_ty.tyvar_name.Goals as goal

pub push-requires : goal.push-requires
push-requires c = search (room_of, rules)

pub returns-then-index-eq-UNKNOWN_TYVAR : goal.returns-then-index-eq-UNKNOWN_TYVAR
returns-then-index-eq-UNKNOWN_TYVAR c = search named_unknown

pub push-letter-requires : goal.push-letter-requires
push-letter-requires c = search (room_of, rules)

pub push_decimal-requires : goal.push_decimal-requires
push_decimal-requires c = search (room_suffix, rules)

pub returns-then-suffix-eq0 : goal.returns-then-suffix-eq0
returns-then-suffix-eq0 c = search named_letter

pub returns-else-suffix-eq0 : goal.returns-else-suffix-eq0
returns-else-suffix-eq0 c = search named_suffix
