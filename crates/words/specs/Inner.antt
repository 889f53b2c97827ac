-- How an old field word is put into today's layout.
use Rattle.std.specs.Prelude.{ℕ, ◌+◌, ◌*◌, ◌^◌, not, eqb}
use Rattle.words.specs.Words.{bit, field_word, field_optional, old_field_name, old_field_zero, child}

-- the same mark, name and child; the zero field is 0 exactly where that of the old word is, so that a fault stays one
unfoldable pub renewed : ℕ → ℕ
unfolding field_word field_optional old_field_name old_field_zero child
renewed w = field_word (field_optional w) (old_field_name w) (child w) + bit (not (eqb (old_field_zero w) 0)) * 2 ^ 12
