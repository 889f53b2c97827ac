-- Short texts grow at their end: by a byte, and by the digits of a number.
use Prim.Native.Nat.{ℕ, suc, ◌+◌, ◌-◌, ◌/◌, ◌%◌, ◌≤◌, ◌<◌}
use mathlib.Core.Path.{◌≡◌, sym, ap, ◌∙◌}
use mathlib.Core.List.{List, [], ◌∷◌, ◌++◌, append_assoc}
use native.Mathlib.Omega.{arith}
use lib.ListN.{length, set, replicate, length-append}
use lib.Seq.{take-append_seam, set-append_seam, append_snoc}
use Rattle.types.specs.declared.short_text.ShortText.{ShortText}
use Rattle.types.specs.Decimal.{digit, decimal}
use Rattle.types.specs.Short.{short_text}
use Rattle.types.specs.Inner.{text, appended, Room}
use Rattle.types.proofs.Decimals.{decimal_small, decimal_step}

pub text_short : (s : List ℕ) → text (short_text s) ≡ s
unfolding text short_text
text_short s = take-append_seam s (replicate (11 - length s) 0)

pub appended_short : {t : ShortText} (s u : List ℕ) → t ≡ short_text s → appended t u ≡ short_text (s ++ u)
unfolding appended
appended_short s u e = rw (e, text_short)

appended_appended : (t : ShortText) (a b : List ℕ) → appended (appended t a) b ≡ appended t (a ++ b)
unfolding appended
appended_appended t a b = rw (text_short, append_assoc)

-- ---- room for more
pub room_of : {t : ShortText} {n : ℕ} (s : List ℕ) → t ≡ short_text s → length s + n ≤ 11 → Room t n
unfolding short_text
room_of s e h = record { padded = rw (e, text_short); fits = rw e h }

len_text : {t : ShortText} {n : ℕ} → Room t n → t.len ≡ length (text t)
unfolding short_text
len_text room = ap (λ (u : ShortText). u.len) room.padded

room_less : {t : ShortText} {n : ℕ} (m : ℕ) → m ≤ n → Room t n → Room t m
room_less m h room = record { padded = room.padded; fits = omega arith }

room_after : {t r : ShortText} {k : ℕ} (s : List ℕ) (m : ℕ) → Room t k → r ≡ appended t s → length s + m ≤ k → Room r m
unfolding appended
room_after {t} s m room e h = room_of (text t ++ s) e (rw length-append (omega (arith, len_text room)))

-- ---- a byte
pushed_short : (s : List ℕ) (b : ℕ) → length s + 1 ≤ 11 → Path ShortText (record { bytes = set (short_text s).bytes (length s) b; len = length s + 1 }) (short_text (s ++ (b ∷ [])))
unfolding short_text
pushed_short s b h = λ i. record { bytes = put i; len = sym (length-append s (b ∷ [])) i }
  where
    first : 11 - length s ≡ suc (10 - length s)
    first = omega arith

    after : 11 - (length s + 1) ≡ 10 - length s
    after = omega arith

    put : set (s ++ replicate (11 - length s) 0) (length s) b ≡ (s ++ (b ∷ [])) ++ replicate (11 - length (s ++ (b ∷ []))) 0
    put = rw (first, set-append_seam, length-append, after, append_snoc)

pub pushed : (t : ShortText) (b : ℕ) → Room t 1 → Path ShortText (record { bytes = set t.bytes t.len b; len = t.len + 1 }) (appended t (b ∷ []))
unfolding appended short_text
pushed t b room =
    ap (λ (u : ShortText). record { bytes = set u.bytes u.len b; len = u.len + 1 }) room.padded
    ∙ pushed_short (text t) b (omega (arith, len_text room))

-- ---- the digits of a number below ten
module _ (t : ShortText) (n : ℕ) (small : n < 10) where
  pub room_digit : Room t (length (decimal n)) → Room t 1
  room_digit room = rw (decimal_small n small) at room

  pub appended_digit : {r : ShortText} → r ≡ appended t (digit n ∷ []) → r ≡ appended t (decimal n)
  appended_digit e = rw (decimal_small n small) e

-- ---- the digits of a larger one: those of its tenth, and the last
module _ {t : ShortText} (n : ℕ) (large : 10 ≤ n) (room : Room t (length (decimal n))) where
  one_more : length (decimal n) ≡ length (decimal (n / 10)) + 1
  one_more = rw (decimal_step n large, length-append)

  pub room_tenth : Room t (length (decimal (n / 10)))
  room_tenth = room_less (length (decimal (n / 10))) (omega (arith, one_more)) room

  pub room_last : {r : ShortText} → r ≡ appended t (decimal (n / 10)) → Room r 1
  room_last e = room_after (decimal (n / 10)) 1 room e (omega (arith, one_more))

  pub appended_last : {r q : ShortText} → r ≡ appended t (decimal (n / 10)) → q ≡ appended r (digit (n % 10) ∷ []) → q ≡ appended t (decimal n)
  appended_last e f = f ∙ rw (e, appended_appended, ← decimal_step n large)
