-- The name of a variable as it is built: the mark of the unknown type, or a letter and then perhaps a number.
use Prim.Native.Nat.{ℕ, ◌/◌, ◌%◌, ◌^◌, ◌<◌}
use Prim.Native.Char.{code}
use mathlib.Core.Path.{◌≡◌, ◌∙◌}
use mathlib.Core.List.{[], ◌∷◌}
use native.Mathlib.Omega.{arith}
use lib.ListN.{length}
use borrow.Author.Tests.{eq-eqb, ne_eqb}
use Rattle.types.specs.declared.short_text.ShortText.{ShortText}
use Rattle.types.specs.Bytes.{bytes}
use Rattle.types.specs.Decimal.{decimal}
use Rattle.types.specs.Short.{short_text}
use Rattle.types.specs.Inner.{appended, Room}
use Rattle.types.specs.Tyvar.{unknown, letter, suffix, tyvar_name}
use Rattle.types.proofs.Decimals.{decimal_length}
use Rattle.types.proofs.Shorts.{appended_short, room_of}

suffix_none : (n : ℕ) → n ≡ 0 → suffix n ≡ []
unfolding suffix
suffix_none n e = rw (eq-eqb n 0 e, suffix)

suffix_some : (n : ℕ) → (n ≡ 0 → ⊥) → suffix n ≡ decimal n
unfolding suffix
suffix_some n f = rw (ne_eqb n 0 f, suffix)

tyvar_unknown : (v : ℕ) → v ≡ unknown → tyvar_name v ≡ bytes "?"
unfolding tyvar_name
tyvar_unknown v e = rw (eq-eqb v unknown e, tyvar_name)

tyvar_known : (v : ℕ) → (v ≡ unknown → ⊥) → tyvar_name v ≡ letter (v % 26) ∷ suffix (v / 26)
unfolding tyvar_name
tyvar_known v f = rw (ne_eqb v unknown f, tyvar_name)

-- ---- u is the empty text, t has one byte more
module _ (v : ℕ) {u : ShortText} (empty : u ≡ short_text []) where
  one_byte : (b : ℕ) {t : ShortText} → t ≡ appended u (b ∷ []) → t ≡ short_text (b ∷ [])
  one_byte b h = h ∙ appended_short [] (b ∷ []) empty

  pub named_unknown : {t : ShortText} → v ≡ unknown → t ≡ appended u (bytes "?") → t ≡ short_text (tyvar_name v)
  named_unknown e h = rw (tyvar_unknown v e) (one_byte (code "?") h)

  pub room_suffix : (b : ℕ) {t : ShortText} → t ≡ appended u (b ∷ []) → v < 2 ^ 32 → Room t (length (decimal (v / 26)))
  room_suffix b h small = room_of (b ∷ []) (one_byte b h) (omega (arith, decimal_length 9 (v / 26) (omega arith)))

  module _ (known : v ≡ unknown → ⊥) {t : ShortText} (first : t ≡ appended u (letter (v % 26) ∷ [])) where
    pub named_letter : v / 26 ≡ 0 → t ≡ short_text (tyvar_name v)
    named_letter e = rw (tyvar_known v known, suffix_none (v / 26) e) (one_byte (letter (v % 26)) first)

    pub named_suffix : {r : ShortText} → (v / 26 ≡ 0 → ⊥) → r ≡ appended t (decimal (v / 26)) → r ≡ short_text (tyvar_name v)
    named_suffix f h =
        rw (tyvar_known v known, suffix_some (v / 26) f)
        (h ∙ appended_short (letter (v % 26) ∷ []) (decimal (v / 26)) (one_byte (letter (v % 26)) first))
