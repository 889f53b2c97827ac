-- `push_decimal` ends since a tenth is smaller; what it appends is the digits of the tenth, then the last one.
use Rattle.types.proofs.short_text.ShortText.+push_decimal.Given as goal

abbrev pub decreases-push_decimal : goal.decreases-push_decimal
decreases-push_decimal l = l.n
